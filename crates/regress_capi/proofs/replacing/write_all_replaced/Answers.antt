use Rattle.std.proofs.Common.{◌≡◌, string_bytes, subst}
use Rattle.std.specs.Prelude.{IfErr, IfOk}
use Rattle.regress.specs.Costs.{AllAreTooCostly}
use Rattle.regress.specs.Memory.{AllNeedMore}
use Rattle.regress.specs.declared.failure.SearchError.TheVariants.{OutOfSteps, TooMuchMemory}
use Rattle.regress_capi.specs.ReplaceResults.{HasAllReplaced}
use Rattle.regress_capi.specs.SearchResults.{bad}
use Rattle.regress_capi.proofs.ReplaceLemmas.{all_costly, text-reports}
use Rattle.regress_capi.proofs.replacing.write_all_replaced.Goals as goal

pub returns-in-Some : goal.returns-in-Some
returns-in-Some c = record {
  status =
      text-reports (λ out. string_bytes out) c.replace_all.result (c.in-Some.ensures.2, c.in-Some.ensures.3)
      (subst (λ t. IfOk c.replace_all.result (λ out. HasAllReplaced c.args.regex.now c.args.replaced.text.now t (string_bytes out))) c.in-Some.ensures.1
      (subst (λ t. IfOk c.replace_all.result (λ out. HasAllReplaced c.args.regex.now t c.in-Some.template.now (string_bytes out))) c.in-Some.ensures.0
      c.replace_all.ensures.replaced))
      (subst (λ t. IfErr c.replace_all.result (λ error. error ≡ OutOfSteps → AllAreTooCostly c.args.regex.now t 0)) c.in-Some.ensures.0
      (all_costly c.args.regex.now c.in-Some.text.now 0 c.replace_all.result c.replace_all.ensures.linear c.replace_all.ensures.costs))
      (subst (λ t. IfErr c.replace_all.result (λ error. error ≡ TooMuchMemory → AllNeedMore c.args.regex.now t 0)) c.in-Some.ensures.0
      c.replace_all.ensures.too_much)
      c.report.ensures;
}

pub returns-in-None : goal.returns-in-None
returns-in-None c = record { status = bad c.in-None.ensures }
