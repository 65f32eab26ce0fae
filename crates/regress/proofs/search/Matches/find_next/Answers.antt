use Rattle.std.proofs.Common.{ap₂, refl}
use Rattle.std.proofs.Math.Logic.{∥∥₁_elim}
use Rattle.std.proofs.lemmas.Result.{err_from_is_err_and}
use Rattle.regress_match.specs.Iterated.{steps_remaining}
use Rattle.regress_match.specs.Matcher.{factor_in}
use Rattle.regress_match.proofs.lemmas.Iterated.{same_outcomes}
use Rattle.regress.specs.Inside.{IsInside-prop}
use Rattle.regress.specs.Searched.{next_from, search_remaining, searched_factor, searched_matcher, searched_text}
use Rattle.regress.proofs.FaultLemmas.{due_next, out_of_steps}
use Rattle.regress.proofs.FoundLemmas.{costs_remaining, never_out_next}
use Rattle.regress.proofs.search.Matches.find_next.Goals as goal

pub returns-in-Matched : goal.returns-in-Matched
returns-in-Matched c = record {
  same = record {
    text = c.in_ok-found.ensures.same.text;
    outcomes = same_outcomes c.args.self.now.matches c.next.new.self c.in_ok-found.ensures.same;
    groups = refl;
    linear = ap₂ factor_in c.in_ok-found.ensures.same.matcher c.in_ok-found.ensures.same.text;
    matcher = c.in_ok-found.ensures.same.matcher;
    limit = c.in_ok-found.ensures.same.limit;
    spent = c.in_ok-found.ensures.spent.remaining;
    taken = c.in_ok-found.ensures.spent.taken;
  };
  failed = refl;
  returns = record {
    leftmost = rw c.in-Matched.is at c.in_ok-found.ensures.finds;
    inside = ∥∥₁_elim c.args.self.now.well_formed (IsInside-prop _ _) (rw c.in-Matched.is at c.in_ok-found.ensures.inside);
    groups = refl;
    goes_on = rw c.in-Matched.is at c.in_ok-found.ensures.goes_on;
    counted = rw c.in-Matched.is at c.in_ok-found.ensures.counted;
    costs = c.in_ok-found.ensures.costs;
  };
}

pub returns-in-NoMatch : goal.returns-in-NoMatch
returns-in-NoMatch c = record {
  same = record {
    text = c.in_ok-found.ensures.same.text;
    outcomes = same_outcomes c.args.self.now.matches c.next.new.self c.in_ok-found.ensures.same;
    groups = refl;
    linear = ap₂ factor_in c.in_ok-found.ensures.same.matcher c.in_ok-found.ensures.same.text;
    matcher = c.in_ok-found.ensures.same.matcher;
    limit = c.in_ok-found.ensures.same.limit;
    spent = c.in_ok-found.ensures.spent.remaining;
    taken = c.in_ok-found.ensures.spent.taken;
  };
  failed = refl;
  returns = rw c.in-NoMatch.is at c.in_ok-found.ensures.finds;
}

pub returns-in-OutOfSteps : goal.returns-in-OutOfSteps
returns-in-OutOfSteps c = record {
  same = record {
    text = c.in_ok-found.ensures.same.text;
    outcomes = same_outcomes c.args.self.now.matches c.next.new.self c.in_ok-found.ensures.same;
    groups = refl;
    linear = ap₂ factor_in c.in_ok-found.ensures.same.matcher c.in_ok-found.ensures.same.text;
    matcher = c.in_ok-found.ensures.same.matcher;
    limit = c.in_ok-found.ensures.same.limit;
    spent = c.in_ok-found.ensures.spent.remaining;
    taken = c.in_ok-found.ensures.spent.taken;
  };
  failed = refl;
  returns = (
    rw c.in-OutOfSteps.is at c.in_ok-found.ensures.goes_on,
    out_of_steps c.args.self.now (record {
      linear = never_out_next (searched_factor c.args.self.now) _ c.in_ok-found.ensures.linear c.in-OutOfSteps.is;
      costs = costs_remaining (searched_matcher c.args.self.now) (searched_text c.args.self.now) (next_from c.args.self.now)
          (search_remaining c.args.self.now) (steps_remaining c.next.new.self) (searched_factor c.args.self.now) _ c.in_ok-found.ensures.linear
          c.in_ok-found.ensures.limited c.in_ok-found.ensures.costs c.in-OutOfSteps.is;
    }),
  );
}

pub returns-in_err-found : goal.returns-in_err-found
returns-in_err-found c =
    let p = err_from_is_err_and c.from_residual.result c.from_residual.ensures.1 in
    let failed = c.in_err-found.ensures in
    rw p.1 (record {
      same = record {
        text = failed.same.text;
        outcomes = same_outcomes c.args.self.now.matches c.next.new.self failed.same;
        groups = refl;
        linear = ap₂ factor_in failed.same.matcher failed.same.text;
        matcher = failed.same.matcher;
        limit = failed.same.limit;
        spent = failed.spent.remaining;
        taken = failed.spent.taken;
      };
      failed = refl;
      returns = (failed.stays, due_next c.args.self.now c.in_err-found.field-0.0 p.0 p.2 failed.too_much);
    })
