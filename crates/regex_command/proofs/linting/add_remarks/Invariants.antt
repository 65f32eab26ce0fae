-- the remarks so far
use Rattle.std.proofs.Common.{map, take}
use Rattle.std.specs.List.{FoldsTo}
use Rattle.regress_spans.specs.Remarks.{said_by}
use Rattle.regex_command.specs.Patterns.{IsListedNext, line_of}
use Rattle.regex_command.proofs.linting.add_remarks.Given as goal

abbrev pub invariant-loop-remark : goal.invariant-loop-remark
invariant-loop-remark l = FoldsTo IsListedNext l.initial.to.items (map line_of (said_by (take l.remark-index l.remarks))) l.to.items
