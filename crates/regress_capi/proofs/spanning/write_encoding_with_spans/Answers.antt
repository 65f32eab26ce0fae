use Rattle.std.proofs.Common.{◌≡◌, true}
use Rattle.regress_capi.specs.SpannedResults.{spanned_bad}
use Rattle.regress_capi.proofs.SpannedLemmas.{spanned-asked}
use Rattle.regress_capi.proofs.spanning.write_encoding_with_spans.Goals as goal

pub returns-then-not-is_request : goal.returns-then-not-is_request
returns-then-not-is_request c = record {
  status = rw c.bare.ensures (spanned_bad (λ asked. let yes : c.is_request.result ≡ true = c.is_request.ensures.1 asked in cc));
}

pub returns : goal.returns
returns c = record { status = spanned-asked (c.is_request.ensures.0 (cc)) c.write_spanned.ensures.status }
