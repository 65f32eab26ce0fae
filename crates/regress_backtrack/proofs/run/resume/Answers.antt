use Rattle.std.proofs.lemmas.Grind.{common_steps}
use Rattle.std.proofs.Common.{rules, arith, ◌≡◌, ◌∷◌, ◌++◌, All, true, flat_map, sym, ap, ◌∙◌, subst}
use Rattle.std.proofs.lemmas.List.Elements.{All-tail}
use Rattle.regress_backtrack.specs.Machine.{at, groups_of, points}
use Rattle.regress_backtrack.specs.Next.{Inside}
use Rattle.regress_backtrack.proofs.CostLemmas.{back_cost}
use Rattle.regress_backtrack.proofs.run.resume.Goals as goal

pub returns-then-not-fails-clause-inside : goal.returns-then-not-fails-clause-inside
returns-then-not-fails-clause-inside c = λ all.
    let m' = c.backtrack.new.self in
    let back : points c.loop-to.machine ≡ at c.in-Some.to (groups_of m') ∷ points m' = rw c.in-Some.is at c.in_ok-to.ensures.points in
    subst (All (Inside c.args.input.now)) back (c.loop-to.invariant.inside all)

pub returns-then-not-fails-clause-costs : goal.returns-then-not-fails-clause-costs
returns-then-not-fails-clause-costs c = λ cost.
    let m' = c.backtrack.new.self in
    let back : points c.loop-to.machine ≡ at c.in-Some.to (groups_of m') ∷ points m' = rw c.in-Some.is at c.in_ok-to.ensures.points in
    let so_far = c.loop-to.invariant.costs cost in
    let one = back_cost cost c.loop-to.machine m' c.in-Some.to back in
    omega (arith, so_far, one)

pub loop-to-preserved : goal.loop-to-preserved
loop-to-preserved c =
    let input = c.args.input.now in
    let m' = c.backtrack.new.self in
    let left = c.leave_out.ensures in
    let to = at c.in-Some.to (groups_of m') in
    let known : c.fails.result ≡ true = first_of (search rules, grind (arith, common_steps)) in
    let back : points c.loop-to.machine ≡ to ∷ points m' = rw c.in-Some.is at c.in_ok-to.ensures.points in
    record {
      same = λ outs solve.
          c.loop-to.invariant.same outs solve
          ∙ ap (flat_map (outs input.index)) back
          ∙ ap (λ xs. xs ++ flat_map (outs input.index) (points m'))
          (c.fails.ensures known outs (groups_of m') solve)
          ∙ sym (left.leads outs solve);
      inside = λ all. left.inside (All-tail (Inside input) to (points m') (subst (All (Inside input)) back (c.loop-to.invariant.inside all)));
      rewound = left.rewound ∙ c.in_ok-to.ensures.rewound ∙ c.loop-to.invariant.rewound;
      costs = λ cost.
          let so_far = c.loop-to.invariant.costs cost in
          let one = back_cost cost c.loop-to.machine m' c.in-Some.to back in
          let fewer = left.costs cost in
          omega (arith, so_far, one, fewer);
      shrinks = omega (arith, c.loop-to.invariant.shrinks, c.backtrack.ensures.shrinks, left.shrinks);
      within = λ room are. left.within room (c.backtrack.ensures.within room (c.loop-to.invariant.within room are));
    }

pub returns-in_err-to-clause-shrinks : goal.returns-in_err-to-clause-shrinks
returns-in_err-to-clause-shrinks c = omega (arith, c.loop-to.invariant.shrinks, c.backtrack.ensures.shrinks)

pub returns-in_err-to-clause-within : goal.returns-in_err-to-clause-within
returns-in_err-to-clause-within c = λ room are. c.backtrack.ensures.within room (c.loop-to.invariant.within room are)

pub returns-then-not-fails-clause-shrinks : goal.returns-then-not-fails-clause-shrinks
returns-then-not-fails-clause-shrinks c = omega (arith, c.loop-to.invariant.shrinks, c.backtrack.ensures.shrinks)

pub returns-then-not-fails-clause-within : goal.returns-then-not-fails-clause-within
returns-then-not-fails-clause-within c = λ room are. c.backtrack.ensures.within room (c.loop-to.invariant.within room are)

pub returns-clause-shrinks : goal.returns-clause-shrinks
returns-clause-shrinks c = omega (arith, c.loop-to.invariant.shrinks, c.backtrack.ensures.shrinks)

pub returns-clause-within : goal.returns-clause-within
returns-clause-within c = λ room are. c.backtrack.ensures.within room (c.loop-to.invariant.within room are)
