-- What a search by tables finds.
use Rattle.std.proofs.Common.{◌≡◌, ℕ, ◌≤◌, Bool, true, false, List, ◌∷◌, Some, None, Result, Ok, Err, IfOk, if◌then◌else◌, refl, sym, ap, ◌∙◌, subst}
use Rattle.std.specs.Str.{IsCharBoundary}
use Rattle.regress_tree.specs.Steps.{MatchState}
use Rattle.regress_found.specs.declared.found.Match.{Match}
use Rattle.regress_program.specs.Program.{Routine}
use Rattle.regress_program.specs.Ranges.{inner_groups}
use Rattle.regress_program.specs.Tidy.{is_tabled, table_groups}
use Rattle.regress_found.specs.Found.{IsLeftmost, NoneBefore, start_of, state_of}

-- a match with this start and this state
pub leftmost_by : (text : List ℕ) (at : ℕ → List MatchState) (origin start : ℕ) (state : MatchState) (m : Match) → start_of m ≡ start → state_of m ≡ state →
    origin ≤ start → IsCharBoundary text start → (rest : List MatchState) → at start ≡ state ∷ rest → NoneBefore text at origin start →
    IsLeftmost text at origin m
leftmost_by text at origin start state m starts has from boundary rest first least = record {
  from = subst (λ k. origin ≤ k) (sym starts) from;
  boundary = subst (IsCharBoundary text) (sym starts) boundary;
  first = (rest, ap at starts ∙ first ∙ ap (λ s. s ∷ rest) (sym has));
  least = subst (NoneBefore text at origin) (sym starts) least;
}

pub ok_map : {X E : Type 0} (r : Result X E) (P Q : X → Type 0) → ((x : X) → P x → Q x) → IfOk r P → IfOk r Q
ok_map (Ok x) P Q f is = f x is
ok_map (Err e) P Q f is = tt

-- A program that tables lead through, and the groups that its lookarounds set.
pub tabled_by : (tidy : Bool) (program : List Routine) (inner : ℕ) → table_groups tidy program ≡ Some inner →
    (is_tabled tidy program ≡ true) × (inner ≡ inner_groups program)
tabled_by tidy program inner is = by (is_tabled tidy program) is
  where
    by : (b : Bool) → (if b then Some (inner_groups program) else None) ≡ Some inner → (b ≡ true) × (inner ≡ inner_groups program)
    by true same = (refl, let h : inner ≡ inner_groups program = cc in h)
    by false same = absurd (cc)
