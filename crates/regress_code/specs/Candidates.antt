-- The positions at which matches of a program can begin.
use Rattle.std.specs.Prelude.{◌≡◌, ℕ, ◌≤◌, ◌-◌, List, [], length}
use Rattle.std.proofs.Props.{props}
use Rattle.regress_tree.specs.Steps.{MatchState, Setting}
use Rattle.regress_prefilter.specs.Candidates.{IsCandidate}
use Rattle.regress_prefilter.specs.declared.candidates.Candidates.{Candidates}
use Rattle.regress_program.specs.Program.{IsSolution, Out, Routine, matcher_of}

-- Every match of the program begins at a candidate.
abbrev pub BeginsAt : Candidates → (program : List Routine) → Type 0
BeginsAt candidates program = (setting : Setting) (text : List ℕ) (outs : ℕ → Out) → IsSolution setting text program outs →
    (s : MatchState) → s.position ≤ length text → (IsCandidate candidates text s.position → ⊥) →
    matcher_of setting text program outs (length program - 1) s ≡ []

-- The property has at most one proof.
pub BeginsAt-prop : (candidates : Candidates) (program : List Routine) → IsProp (BeginsAt candidates program)
BeginsAt-prop candidates program = hlevel props
