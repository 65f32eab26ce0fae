use Rattle.std.proofs.Common.{◌≡◌, map, take}
use Rattle.std.specs.Box.{boxed_slice_items}
use Rattle.regress_tree.proofs.ir.copies.copy_strings.Given as goal

abbrev pub invariant-loop-string : goal.invariant-loop-string
invariant-loop-string l = map boxed_slice_items l.copies.items ≡ map boxed_slice_items (take l.string-index l.strings)
