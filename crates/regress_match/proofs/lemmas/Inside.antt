-- The first outcome from a character boundary is inside the text.
use Rattle.std.proofs.Common.{◌≡◌, ℕ, ◌≤◌, List, ◌∷◌, None, All, length, sym, subst}
use Rattle.std.proofs.lemmas.List.Elements.{All-head, All-replicate}
use Rattle.std.specs.Str.{IsUtf8, IsCharBoundary}
use Rattle.regress_tree.specs.Inside.{IsCaptureInside, IsStateInside}
use Rattle.regress_tree.specs.Reading.{forwards}
use Rattle.regress_tree.specs.Steps.{MatchState, Setting}
use Rattle.regress_tree.specs.Tree.{Tree}
use Rattle.regress_tree.specs.WellFormed.{IsWellFormed, captures}
use Rattle.regress_tree.proofs.lemmas.Inside.{IsReachedInside, well_formed_stays_inside}
use Rattle.regress_found.specs.Found.{initial_state, start_of, state_of, IsInside, outcomes_at}
use Rattle.regress_found.specs.declared.found.Match.{Match}

pub first_inside : (setting : Setting) (text : List ℕ) → IsUtf8 text → (t : Tree) → IsWellFormed t → (position : ℕ) →
    IsCharBoundary text position → (m : Match) (rest : List MatchState) → start_of m ≡ position →
    outcomes_at setting text t position ≡ state_of m ∷ rest → IsInside text m
first_inside setting text utf8 t well_formed position on m rest start first =
    let n = length (captures t) in
    let s = initial_state n position in
    let is : IsStateInside text s = record { position = on; captures = All-replicate (IsCaptureInside text) n None tt } in
    let all = well_formed_stays_inside setting text utf8 t well_formed forwards s is in
    let reached = All-head (IsReachedInside text forwards s) (state_of m) rest (subst (All (IsReachedInside text forwards s)) first all) in
    record {
      span = record {
        ordered = subst (λ k. k ≤ (state_of m).position) (sym start) reached.onward;
        start = subst (IsCharBoundary text) (sym start) on;
        end = reached.state.position;
      };
      groups = reached.state.captures;
    }
