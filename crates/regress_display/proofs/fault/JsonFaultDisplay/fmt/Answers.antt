use Rattle.std.proofs.Common.{chars, refl, string_bytes}
use Rattle.std.proofs.Output.{has_written_append, has_written_of_eq}
use Rattle.regress_display.proofs.FaultLemmas.{fault_json-written}
use Rattle.regress_display.proofs.fault.JsonFaultDisplay.fmt.Goals as goal

pub returns-clause-writes : goal.returns-clause-writes
returns-clause-writes g c plain ok =
    let fault = c.args.self.now in
    let one = c.in_ok-write_str.ensures.writes plain refl in
    let two = c.in_ok-write_json_text.ensures one.plain refl in
    let three = c.write.ensures.writes two.plain ok in
    has_written_of_eq _ _ _ _ _
    (fault_json-written fault.kind.now (string_bytes fault.error.now.text) (chars fault.pattern.now) fault.position
    c.deref.result.now c.name.result.now c.at-line.result.line c.at-line.result.column
    c.deref.ensures c.name.ensures c.at-line.ensures.line c.at-line.ensures.column)
    (has_written_append _ _ _ _ _ _ (has_written_append _ _ _ _ _ _ one two) three)
