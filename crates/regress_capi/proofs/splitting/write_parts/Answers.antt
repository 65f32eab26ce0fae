use Rattle.std.proofs.Common.{subst}
use Rattle.regress.specs.Costs.{AllAreTooCostly}
use Rattle.regress.specs.Memory.{AllNeedMore}
use Rattle.regress_capi.specs.ListResults.{IsListOf, list_bad, listed}
use Rattle.regress_capi.specs.PartResults.{AreEndsOfParts}
use Rattle.regress_capi.proofs.ListLemmas.{list-fails}
use Rattle.regress_capi.proofs.splitting.write_parts.Goals as goal

pub returns-in-Ok-parts : goal.returns-in-Ok-parts
returns-in-Ok-parts c = record {
  status =
      rw c.of.ensures
      (listed c.in-Ok.ensures.cases.1
      (subst (λ t. IsListOf (AreEndsOfParts c.args.regex.now t c.args.split.limit) 2 c.in-Ok-parts.list.value) c.in-Ok.ensures.cases.0
      c.in-Ok-parts.ensures.listed));
}

pub returns-in-Err-parts : goal.returns-in-Err-parts
returns-in-Err-parts c = record {
  status =
      list-fails c.in-Err-parts.error c.in-Ok.ensures.cases.1
      (λ is. subst (λ t. AllAreTooCostly c.args.regex.now t 0) c.in-Ok.ensures.cases.0 (c.in-Err-parts.ensures.failed is))
      (λ is. subst (λ t. AllNeedMore c.args.regex.now t 0) c.in-Ok.ensures.cases.0 (c.in-Err-parts.ensures.too_much is))
      c.error_status.ensures;
}

pub returns-in-Err : goal.returns-in-Err
returns-in-Err c = record { status = list_bad c.in-Err.ensures.cases.0 }
