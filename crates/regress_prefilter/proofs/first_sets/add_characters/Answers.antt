use Rattle.std.proofs.Common.{rules, ◌<◌, ⊎_elim, inr, length}
use Rattle.regress_base.specs.ByteBitmap.{contains}
use Rattle.regress_prefilter.proofs.FirstSetLemmas.{remaining_list, covered_kept}
use Rattle.regress_prefilter.proofs.first_sets.add_characters.Goals as goal

pub loop-c-preserved : goal.loop-c-preserved
loop-c-preserved c = λ x is.
    let in_list : c.loop-c.c-index < length c.args.characters.now = search rules in
    ⊎_elim (λ left. remaining_list (contains c.add_character.new.set) c.args.characters.now c.loop-c.c-index x in_list c.add_character.ensures.covered left)
    (λ covered. inr (covered_kept _ (contains c.add_character.new.set) x c.add_character.ensures.kept covered))
    (c.loop-c.invariant x is)
