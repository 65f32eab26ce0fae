-- Every program has a cost.
use Rattle.std.proofs.Common.{◌≡◌, ℕ, ◌+◌, List, Option, Some, None, slice_get, refl, ap, ◌∙◌}
use Rattle.regress_tree.specs.Reading.{Direction}
use Rattle.regress_tree.specs.Steps.{MatchState, Matcher, Setting}
use Rattle.regress_program.specs.Cost.{Cost, IsCost, cost_at, cost_by}
use Rattle.regress_program.specs.Program.{Op, Out, Routine, matcher_of, IsSolution}
use Rattle.regress_program.specs.Shape.{IsProgram}
use Rattle.regress_program.proofs.CostLemmas.{cost-same}
use Rattle.regress_program.proofs.SolveLemmas.{IsDetermined, value_at, values, values-solve}

module _ (setting : Setting) (bytes : List ℕ) (body_of : ℕ → Matcher) where
  by : Direction → (ℕ → MatchState → ℕ) → Cost → Op → Cost
  by d body_cost cost op a = 1 + cost_by setting bytes d body_of body_cost cost op a

  determined : IsDetermined setting bytes ℕ 0 by
  unfolding by
  determined d width earlier b1 b2 f g a pc_in within agree bodies op fits =
      ap (λ n. 1 + n) (cost-same setting bytes d width earlier body_of b1 b2 f g a pc_in within agree bodies op fits)

  at-same : (d : Direction) (body_cost : ℕ → MatchState → ℕ) (cost : Cost) (o : Option Op) →
      value_at setting bytes ℕ 0 by d body_cost cost o ≡ cost_at setting bytes d body_of body_cost cost o
  unfolding by
  at-same d body_cost cost None = refl
  at-same d body_cost cost (Some op) = refl

pub some_cost : (setting : Setting) (bytes : List ℕ) (program : List Routine) → IsProgram program → (outs : ℕ → Out) →
    IsSolution setting bytes program outs → (costs : ℕ → Cost) × IsCost setting bytes program outs costs
some_cost setting bytes program is outs solution =
    let body_of : ℕ → Matcher = matcher_of setting bytes program outs in
    let costs : ℕ → Cost = values setting bytes ℕ 0 (by setting bytes body_of) (determined setting bytes body_of) program is in (
      costs,
      record {
        outcomes = solution;
        same = λ i r has a lt within.
            values-solve setting bytes ℕ 0 (by setting bytes body_of) (determined setting bytes body_of) program is i r has a lt within
            ∙ ap (λ f. f a) (at-same setting bytes body_of r.direction _ (costs i) (slice_get r.ops a.pc));
      },
    )
