-- No entry so far has the name.
use Rattle.std.proofs.Common.{◌≡◌, map, drop}
use Rattle.regress_unicode.specs.Parts.{entry_of}
use Rattle.regress_base.specs.Table.{named}
use Rattle.regress_unicode.proofs.lookup.find.Given as goal

abbrev pub invariant-loop-entry : goal.invariant-loop-entry
invariant-loop-entry g l =
    named l.name (map entry_of (drop l.entry-index l.entries)) ≡ named l.name (map entry_of l.entries)
