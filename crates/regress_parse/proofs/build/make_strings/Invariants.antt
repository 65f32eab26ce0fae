use Rattle.std.proofs.Common.{◌≡◌, map}
use Rattle.std.specs.Box.{boxed_slice_items}
use Rattle.regress_classes.specs.ClassViews.{strings_of}
use Rattle.regress_parse.proofs.build.make_strings.Given as goal

abbrev pub invariant-loop-string : goal.invariant-loop-string
invariant-loop-string l = map boxed_slice_items l.alternatives.items ≡ strings_of l.yielded
