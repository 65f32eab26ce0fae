use Rattle.std.proofs.Common.{subst}
use Rattle.regress.specs.Costs.{AllAreTooCostly}
use Rattle.regress.specs.Memory.{AllNeedMore}
use Rattle.regress_capi.specs.ReplaceResults.{HasFirstsReplaced}
use Rattle.regress_capi.specs.ReplacedResults.{bytes_of, count_of, replaced, replaced_bad}
use Rattle.regress_capi.proofs.ReplacedLemmas.{replaced-fails}
use Rattle.regress_capi.proofs.keeping.keep_replaced.Goals as goal

pub returns-in-Ok : goal.returns-in-Ok
returns-in-Ok c =
    let text = c.in-Ok.kept.value in
    record {
      status =
          rw c.of.ensures
          (replaced (c.in-Some.ensures.2, c.in-Some.ensures.3)
          (subst (λ t. HasFirstsReplaced c.args.regex.now c.args.replaced.text.now t c.args.replaced.limit (count_of text) (bytes_of text)) c.in-Some.ensures.1
          (subst (λ t. HasFirstsReplaced c.args.regex.now t c.in-Some.template.now c.args.replaced.limit (count_of text) (bytes_of text)) c.in-Some.ensures.0
          c.in-Ok.ensures.replaced)));
    }

pub returns-in-Err : goal.returns-in-Err
returns-in-Err c = record {
  status =
      replaced-fails c.in-Err.error (c.in-Some.ensures.2, c.in-Some.ensures.3)
      (λ is. subst (λ t. AllAreTooCostly c.args.regex.now t 0) c.in-Some.ensures.0 (c.in-Err.ensures.failed is))
      (λ is. subst (λ t. AllNeedMore c.args.regex.now t 0) c.in-Some.ensures.0 (c.in-Err.ensures.too_much is))
      c.error_status.ensures;
}

pub returns-in-None : goal.returns-in-None
returns-in-None c = record { status = replaced_bad c.in-None.ensures }
