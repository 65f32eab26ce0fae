-- The value has the strings of the iterations so far.
use Rattle.std.proofs.Common.{take}
use Rattle.regress_classes.specs.ClassSets.{value_of_strings}
use Rattle.regress_classes.specs.ClassViews.{strings_of, IsValue}
use Rattle.regress_classes.proofs.class_sets.operand.string_value.Given as goal

abbrev pub invariant-loop-string : goal.invariant-loop-string
invariant-loop-string l = IsValue l.value (value_of_strings (strings_of (take l.string-index l.strings)))
