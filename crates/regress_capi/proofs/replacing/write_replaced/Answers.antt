use Rattle.std.proofs.Common.{◌≡◌, string_bytes, subst}
use Rattle.std.specs.Prelude.{IfErr, IfOk}
use Rattle.regress.specs.Costs.{AllAreTooCostly}
use Rattle.regress.specs.Memory.{AllNeedMore}
use Rattle.regress.specs.declared.failure.SearchError.TheVariants.{OutOfSteps, TooMuchMemory}
use Rattle.regress_capi.specs.ReplaceResults.{HasFirstsReplaced}
use Rattle.regress_capi.specs.SearchResults.{bad}
use Rattle.regress_capi.proofs.ReplaceLemmas.{all_costly, counted-none, counted-reports}
use Rattle.regress_capi.proofs.replacing.write_replaced.Goals as goal

pub returns-in-Some : goal.returns-in-Some
returns-in-Some c = record {
  status =
      counted-reports (λ n bytes. HasFirstsReplaced c.args.regex.now c.args.replaced.text.now c.args.replaced.template.now c.args.replaced.limit n bytes)
      c.replacen.result (c.in-Some.ensures.2, c.in-Some.ensures.3)
      (subst (λ t. IfOk c.replacen.result (λ out. HasFirstsReplaced c.args.regex.now c.args.replaced.text.now t c.args.replaced.limit out.1 (string_bytes out.0)))
      c.in-Some.ensures.1
      (subst (λ t. IfOk c.replacen.result (λ out. HasFirstsReplaced c.args.regex.now t c.in-Some.template.now c.args.replaced.limit out.1 (string_bytes out.0)))
      c.in-Some.ensures.0 c.replacen.ensures.replaced))
      (subst (λ t. IfErr c.replacen.result (λ error. error ≡ OutOfSteps → AllAreTooCostly c.args.regex.now t 0)) c.in-Some.ensures.0
      (all_costly c.args.regex.now c.in-Some.text.now 0 c.replacen.result c.replacen.ensures.linear c.replacen.ensures.costs))
      (subst (λ t. IfErr c.replacen.result (λ error. error ≡ TooMuchMemory → AllNeedMore c.args.regex.now t 0)) c.in-Some.ensures.0
      c.replacen.ensures.too_much)
      c.report_counted.ensures;
  none = counted-none c.args.out.now c.report_counted.new.out c.report_counted.result.needed c.replacen.result c.report_counted.ensures;
}

pub returns-in-None-clause-status : goal.returns-in-None-clause-status
returns-in-None-clause-status c = rw c.none.ensures (bad c.in-None.ensures)
