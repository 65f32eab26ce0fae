use Rattle.std.proofs.Common.{rules, ◌<◌, ⊎_elim, inr, length, subst}
use Rattle.regress_base.specs.ByteBitmap.{contains}
use Rattle.regress_prefilter.specs.FirstSets.{IsCovered}
use Rattle.regress_prefilter.proofs.FirstSetLemmas.{remaining_list, covered_kept}
use Rattle.regress_prefilter.proofs.first_sets.add_bytes.Goals as goal

pub loop-b-preserved : goal.loop-b-preserved
loop-b-preserved c = λ x is.
    let in_list : c.loop-b.b-index < length c.args.bytes.now = search rules in
    ⊎_elim (λ left. remaining_list (contains c.add_character.new.set) c.args.bytes.now c.loop-b.b-index x in_list
    (subst (λ x. IsCovered (contains c.add_character.new.set) x) c.from.ensures c.add_character.ensures.covered) left)
    (λ covered. inr (covered_kept _ (contains c.add_character.new.set) x c.add_character.ensures.kept covered))
    (c.loop-b.invariant x is)
