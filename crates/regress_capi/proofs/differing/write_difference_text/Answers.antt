use Rattle.regress_capi.specs.TextResults.{text_bad}
use Rattle.regress_capi.proofs.TextLemmas.{text-written}
use Rattle.regress_capi.proofs.differing.write_difference_text.Goals as goal

pub returns-in-Some : goal.returns-in-Some
returns-in-Some c = record {
  status = text-written c.in-Some.ensures.0 (c.in-Some.kind, c.in-Some.ensures.1, c.text.ensures) c.give_terminated.ensures;
}

pub returns-in-None : goal.returns-in-None
returns-in-None c = record { status = text_bad c.in-None.ensures }
