use Rattle.std.proofs.Common.{◌≡◌, true, sym, subst}
use Rattle.regress.specs.Compiled.{outcomes_of}
use Rattle.regress.specs.Costs.{IsTooCostly}
use Rattle.regress.specs.Memory.{SearchNeedsMore}
use Rattle.regress.specs.Searched.{MatchesSomewhere}
use Rattle.regress_capi.specs.SearchResults.{found, not_found, no_text}
use Rattle.regress_capi.proofs.SearchLemmas.{test-fails}
use Rattle.regress_capi.proofs.searches.test_with.Goals as goal

pub returns-in-Ok-true : goal.returns-in-Ok-true
returns-in-Ok-true c = record {
  status =
      found c.in-Ok.ensures.cases.1
      (subst (λ t. MatchesSomewhere t (outcomes_of c.args.regex.now t)) c.in-Ok.ensures.cases.0 (c.in-Ok-true.ensures.is.0 (cc)));
}

pub returns-in-Ok-false : goal.returns-in-Ok-false
returns-in-Ok-false c = record {
  status =
      not_found c.in-Ok.ensures.cases.1
      (λ some. let yes : c.in-Ok-false.field-0 ≡ true = c.in-Ok-false.ensures.is.1
      (subst (λ t. MatchesSomewhere t (outcomes_of c.args.regex.now t)) (sym c.in-Ok.ensures.cases.0) some) in cc);
}

pub returns-in-Err-is_match : goal.returns-in-Err-is_match
returns-in-Err-is_match c = record {
  status =
      test-fails c.in-Err-is_match.error c.in-Ok.ensures.cases.1
      (λ is. subst (λ t. IsTooCostly c.args.regex.now t 0) c.in-Ok.ensures.cases.0 (record {
        linear = c.in-Err-is_match.ensures.linear is;
        bounded = c.in-Err-is_match.ensures.bounded is;
        costs = c.in-Err-is_match.ensures.costs is;
      }))
      (λ is. subst (λ t. SearchNeedsMore c.args.regex.now t 0) c.in-Ok.ensures.cases.0 (c.in-Err-is_match.ensures.too_much is))
      c.error_status.ensures;
}

pub returns-in-Err : goal.returns-in-Err
returns-in-Err c = record { status = no_text c.in-Err.ensures.cases.0 }
