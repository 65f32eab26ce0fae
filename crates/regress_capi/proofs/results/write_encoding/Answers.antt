use Rattle.std.proofs.Common.{◌≡◌, rules, arith, true}
use Rattle.std.proofs.lemmas.Grind.{common_steps}
use Rattle.regress_capi.specs.EncodingResults.{bad}
use Rattle.regress_capi.proofs.ResultLemmas.{words-given, words-fault}
use Rattle.regress_capi.proofs.results.write_encoding.Goals as goal

pub returns-then-not-is_request : goal.returns-then-not-is_request
returns-then-not-is_request c = record {
  status = rw c.bare.ensures (bad (λ asked. let yes : c.is_request.result ≡ true = c.is_request.ensures.1 asked in cc));
}

pub returns-in-Ok : goal.returns-in-Ok
returns-in-Ok c = record {
  status =
      rw c.of_items.ensures
      (words-given c.copy_to-fits.result c.in-Ok.items.items c.deref.result.now (c.is_request.ensures.0 (cc)) c.in-Ok.ensures.words
      (first_of (search rules, grind (arith, common_steps))) c.deref.ensures.value c.copy_to-fits.ensures);
}

pub returns-in-Err : goal.returns-in-Err
returns-in-Err c = record {
  status =
      rw c.of_fault.ensures
      (words-fault c.in-Err.fault (c.is_request.ensures.0 (cc)) c.in-Err.ensures.rejected);
}
