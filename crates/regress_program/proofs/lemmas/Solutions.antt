-- Every program has a solution, so what a search finds is found of a pattern with the same outcomes.
use Rattle.std.proofs.Common.{◌≡◌, ℕ, ◌≤◌, List, length, Option, Some, None, sym, ◌∙◌}
use Rattle.regress_tree.specs.Steps.{MatchState, Setting}
use Rattle.regress_found.specs.Found.{Finds, start_of}
use Rattle.regress_program.specs.Program.{Out, Routine, IsSolution}
use Rattle.regress_program.specs.Shape.{IsProgram}
use Rattle.regress_found.specs.declared.found.Match.{Match}
use Rattle.regress_program.proofs.RunLemmas.{outcomes, outcomes-solve}

-- Outcomes that are the same inside the text make no difference.
pub Finds-same : (text : List ℕ) (at at' : ℕ → List MatchState) (origin : ℕ) (found : Option Match) →
    ((p : ℕ) → p ≤ length text → at p ≡ at' p) → Finds text at origin found → Finds text at' origin found
Finds-same text at at' origin None same none = λ p low on. sym (same p on.0) ∙ none p low on
Finds-same text at at' origin (Some m) same is = record {
  from = is.from;
  boundary = is.boundary;
  first = (is.first.0, sym (same (start_of m) is.boundary.0) ∙ is.first.1);
  least = λ p low high on. sym (same p on.0) ∙ is.least p low high on;
}

pub solution : (setting : Setting) (bytes : List ℕ) (program : List Routine) → IsProgram program →
    (outs : ℕ → Out) × IsSolution setting bytes program outs
solution setting bytes program is = (outcomes setting bytes program is, outcomes-solve setting bytes program is)

pub finds_by : (setting : Setting) (text : List ℕ) (program : List Routine) → IsProgram program → (from : (ℕ → Out) → ℕ → List MatchState)
    (at : ℕ → List MatchState) (origin : ℕ) (found : Option Match) →
    ((outs : ℕ → Out) → IsSolution setting text program outs → (k : ℕ) → k ≤ length text → from outs k ≡ at k) →
    ((outs : ℕ → Out) → IsSolution setting text program outs → Finds text (from outs) origin found) →
    Finds text at origin found
finds_by setting text program is from at origin found same solved =
    let some = solution setting text program is in
    Finds-same text (from some.0) at origin found (same some.0 some.1) (solved some.0 some.1)
