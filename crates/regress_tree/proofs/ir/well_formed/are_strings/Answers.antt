use Rattle.std.proofs.Common.{◌<◌, ◌≤◌, All, map, length, refl, subst, rules}
use Rattle.std.specs.Box.{boxed_slice_items}
use Rattle.std.proofs.lemmas.Bool.{false≢true}
use Rattle.std.proofs.lemmas.List.{take_all}
use Rattle.regress_base.specs.Intervals.{code_point_max}
use Rattle.regress_tree.proofs.TextLemmas.{at-mapped}
use Rattle.regress_tree.proofs.ir.well_formed.are_strings.Goals as goal

pub returns-then-not-are_code_points : goal.returns-then-not-are_code_points
returns-then-not-are_code_points c =
    let in_list : c.loop-string.string-index < length c.args.strings.now = search rules in (
      λ denied. absurd (false≢true denied),
      λ all. c.if-not-are_code_points.ensures.all.1
          (rw c.deref.ensures.value
          (at-mapped (All (λ c. c ≤ code_point_max)) boxed_slice_items c.args.strings.now c.loop-string.string-index _ c.string-item.result in_list
          c.string-item.is all)),
    )

pub returns : goal.returns
returns c =
    let strings = c.args.strings.now in (
      λ _. subst (λ list. All (All (λ c. c ≤ code_point_max)) (map boxed_slice_items list))
          (take_all c.loop-string.string-index strings c.loop-string-test.false) c.loop-string.invariant,
      λ _. refl,
    )
