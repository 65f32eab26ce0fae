use Rattle.std.proofs.Common.{◌≡◌, ◌≤◌, ◌++◌, drop, length, map}
use Rattle.std.specs.Box.{boxed_slice_items}
use Rattle.regress_program.specs.LeavesOf.{leaves_of_strings, tree_of}
use Rattle.regress_program.proofs.collect.collect_strings.Given as goal

-- the strings from i on
abbrev pub invariant-loop-i : goal.invariant-loop-i
invariant-loop-i l = record {
  within : l.i ≤ length l.strings;
  has : map tree_of l.leaves.items ≡ map tree_of l.fn.leaves.items ++ leaves_of_strings (map boxed_slice_items (drop l.i l.strings)) l.icase;
}

abbrev pub decreases-loop-i : goal.decreases-loop-i
decreases-loop-i l = l.i
