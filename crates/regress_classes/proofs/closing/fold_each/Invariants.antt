-- The strings of the iterations so far are folded.
use Rattle.std.proofs.Common.{◌≡◌, map, take}
use Rattle.regress_classes.specs.ClassViews.{strings_of}
use Rattle.regress_unicode.specs.TableOf.{table_of}
use Rattle.regress_classes.proofs.closing.fold_each.Given as goal

abbrev pub invariant-loop-string : goal.invariant-loop-string
invariant-loop-string l = strings_of l.folded.items ≡ map (map (table_of l.tables).fold) (strings_of (take l.string-index l.strings))
