-- This is the first set of the strings so far.
use Rattle.std.proofs.Common.{false, take, map}
use Rattle.std.specs.Box.{boxed_slice_items}
use Rattle.regress_tree.specs.Tree.{leaf, string_set}
use Rattle.regress_prefilter.specs.FirstSets.{IsFirstSet}
use Rattle.regress_prefilter.proofs.first_sets.first_set_of_strings.Given as goal

abbrev pub invariant-loop-string : goal.invariant-loop-string
invariant-loop-string l = IsFirstSet l.all (leaf (string_set (map boxed_slice_items (take l.string-index l.strings)) false))
