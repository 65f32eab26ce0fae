use Rattle.std.proofs.Common.{◌≡◌, rules, arith, true}
use Rattle.std.proofs.lemmas.Grind.{common_steps}
use Rattle.regress_capi.specs.ErrorResults.{out_of_memory, bad}
use Rattle.regress_capi.proofs.ResultLemmas.{no-fault, fault-given}
use Rattle.regress_capi.proofs.results.write_error.Goals as goal

pub returns-then-not-is_request : goal.returns-then-not-is_request
returns-then-not-is_request c = record {
  status = rw c.bare.ensures (bad (λ asked. let yes : c.is_request.result ≡ true = c.is_request.ensures.1 asked in cc));
}

pub returns-in-Ok : goal.returns-in-Ok
returns-in-Ok c = record {
  status = rw c.bare-in-Ok.ensures (no-fault c.in-Ok.field-0.items (c.is_request.ensures.0 (cc)) c.in-Ok.ensures.words);
}

pub returns-in-Err-Syntax : goal.returns-in-Err-Syntax
returns-in-Err-Syntax c = record {
  status =
      rw c.of_text.ensures
      (fault-given c.copy_to-fits.result c.in-Err-Syntax.kind _ _ c.as_bytes-bytes.result.now (c.is_request.ensures.0 (cc))
      (rw c.in-Err-Syntax.field-0-is at c.in-Err-Syntax.ensures.rejected) (first_of (search rules, first_of (cc, grind (arith, common_steps))))
      c.copy_to-fits.ensures);
}

pub returns : goal.returns
returns c = record { status = rw c.bare-in-Err-Memory.ensures (out_of_memory (c.is_request.ensures.0 (cc))) }
