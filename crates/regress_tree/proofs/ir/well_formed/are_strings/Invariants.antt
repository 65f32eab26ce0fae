use Rattle.std.proofs.Common.{◌≤◌, All, map, take}
use Rattle.std.specs.Box.{boxed_slice_items}
use Rattle.regress_base.specs.Intervals.{code_point_max}
use Rattle.regress_tree.proofs.ir.well_formed.are_strings.Given as goal

abbrev pub invariant-loop-string : goal.invariant-loop-string
invariant-loop-string l = All (All (λ c. c ≤ code_point_max)) (map boxed_slice_items (take l.string-index l.strings))
