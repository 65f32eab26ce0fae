use Rattle.std.proofs.Common.{subst}
use Rattle.regress.specs.Compiled.{groups_of, outcomes_of}
use Rattle.regress.specs.Costs.{AllAreTooCostly}
use Rattle.regress.specs.Memory.{AllNeedMore}
use Rattle.regress_capi.specs.ListResults.{IsListOf, list_bad, listed, width_of}
use Rattle.regress_capi.specs.Spans.{AreEndsOfAll}
use Rattle.regress_capi.proofs.ListLemmas.{list-fails}
use Rattle.regress_capi.proofs.listing.write_list.Goals as goal

pub returns-in-Ok-list : goal.returns-in-Ok-list
returns-in-Ok-list c = record {
  status =
      rw c.of.ensures
      (listed c.in-Ok.ensures.cases.1
      (subst (λ t. IsListOf (AreEndsOfAll t (outcomes_of c.args.regex.now t) c.args.searched.from) (width_of (groups_of c.args.regex.now)) c.in-Ok-list.list.value)
      c.in-Ok.ensures.cases.0 c.in-Ok-list.ensures.listed));
}

pub returns-in-Err-list : goal.returns-in-Err-list
returns-in-Err-list c = record {
  status =
      list-fails c.in-Err-list.error c.in-Ok.ensures.cases.1
      (λ is. subst (λ t. AllAreTooCostly c.args.regex.now t c.args.searched.from) c.in-Ok.ensures.cases.0 (c.in-Err-list.ensures.failed is))
      (λ is. subst (λ t. AllNeedMore c.args.regex.now t c.args.searched.from) c.in-Ok.ensures.cases.0 (c.in-Err-list.ensures.too_much is))
      c.error_status.ensures;
}

pub returns-in-Err : goal.returns-in-Err
returns-in-Err c = record { status = list_bad c.in-Err.ensures.cases.0 }
