-- the remarks so far
use Rattle.std.proofs.Common.{◌≡◌, map, take}
use Rattle.regress_spans.specs.Remarks.{said_by}
use Rattle.regress_warnings.specs.Warned.{said_of}
use Rattle.regress_warnings.proofs.pattern.remarks.Given as goal

abbrev pub invariant-loop-warning : goal.invariant-loop-warning
invariant-loop-warning l = said_by l.remarks.items ≡ map said_of (take l.warning-index l.found)
