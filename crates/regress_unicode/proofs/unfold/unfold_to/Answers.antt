-- The list has the code points that the entries map to the target. The target itself is inserted.
use Rattle.std.proofs.Common.{ap, sym, ◌==◌, ◌&&◌, ◌||◌, ◌∙◌, nat_le, length, List, le_refl}
use Rattle.std.proofs.lemmas.List.{take_all}
use Rattle.regress_base.specs.Intervals.{code_point_max}
use Rattle.regress_unicode.specs.FoldEntries.{FoldEntry, has_source}
use Rattle.regress_unicode.proofs.SourceLemmas.{has_mapped}
use Rattle.regress_unicode.proofs.UnfoldLemmas.{target_added}
use Rattle.regress_unicode.proofs.unfold.unfold_to.Goals as goal

pub returns : goal.returns
returns c =
    let mappings = c.args.mappings.now in
    record {
      ascending = c.in_ok-insert_ordered.ensures.ascending;
      members = λ x. target_added x c.args.target _ _ _ c.requires.code_point (c.in_ok-push_sources.ensures.members x)
          (c.in_ok-insert_ordered.ensures.members x)
          ∙ ap (λ b. nat_le x code_point_max && b) (ap (λ (rs : List FoldEntry). (x == c.args.target) || has_source rs c.args.target x)
          (take_all (length mappings) mappings (le_refl (length mappings)))
          ∙ sym (has_mapped 0 mappings c.args.target x c.requires.in_order c.requires.own_mapped));
    }
