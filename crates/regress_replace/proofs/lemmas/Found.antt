-- The matches of a repeated search are in order, and inside the text if the tree is well formed.
use Rattle.std.proofs.Common.{ℕ, zero, suc, take, List, [], ◌∷◌, All, refl, arith}
use Rattle.std.proofs.lemmas.List.Elements.{All-cons, All-head, All-nil, All-tail}
use Rattle.std.specs.Str.{IsUtf8}
use Rattle.regress_tree.specs.Steps.{MatchState, Setting}
use Rattle.regress_tree.specs.Tree.{Tree}
use Rattle.regress_tree.specs.WellFormed.{IsWellFormed}
use Rattle.regress_found.specs.Found.{start_of, IsInside, outcomes_at}
use Rattle.regress_found.specs.declared.found.Match.{Match}
use Rattle.regress_found.specs.Repeated.{AreAllMatches, AreMatches, next_offset}
use Rattle.regress_match.proofs.lemmas.Inside.{first_inside}
use Rattle.regress_replace.specs.Expansion.{end_of}
use Rattle.regress_replace.specs.Order.{AreInOrder}
use Rattle.regress_replace.proofs.lemmas.Order.{AreInOrder-from}

pub AreMatches-in_order : (text : List ℕ) (at : ℕ → List MatchState) (from to : ℕ) (ms : List Match) → AreMatches text at from to ms → AreInOrder from ms
AreMatches-in_order text at from to [] found = tt
AreMatches-in_order text at from to (m ∷ ms) found =
    (found.0.from, AreInOrder-from (end_of m) (next_offset m) ms (omega arith) (AreMatches-in_order text at (next_offset m) to ms found.1))

AreMatches-inside : (setting : Setting) (text : List ℕ) → IsUtf8 text → (t : Tree) → IsWellFormed t → (from to : ℕ) (ms : List Match) →
    AreMatches text (outcomes_at setting text t) from to ms → All (IsInside text) ms
AreMatches-inside setting text utf8 t well_formed from to [] found = All-nil (IsInside text)
AreMatches-inside setting text utf8 t well_formed from to (m ∷ ms) found =
    All-cons (IsInside text) m ms
    (first_inside setting text utf8 t well_formed (start_of m) found.0.boundary m found.0.first.0 refl found.0.first.1)
    (AreMatches-inside setting text utf8 t well_formed (next_offset m) to ms found.1)

-- what `replace_matches` and the splits require, at the matches of `find_all`
pub AreAllMatches-in_order : (text : List ℕ) (at : ℕ → List MatchState) (ms : List Match) → AreAllMatches text at ms → AreInOrder 0 ms
AreAllMatches-in_order text at ms all = AreMatches-in_order text at 0 all.to ms all.found

pub AreAllMatches-inside : (setting : Setting) (text : List ℕ) → IsUtf8 text → (t : Tree) → IsWellFormed t → (ms : List Match) →
    AreAllMatches text (outcomes_at setting text t) ms → All (IsInside text) ms
AreAllMatches-inside setting text utf8 t well_formed ms all = AreMatches-inside setting text utf8 t well_formed 0 all.to ms all.found

-- the same for the first matches
pub inside-take : (text : List ℕ) (n : ℕ) (ms : List Match) → All (IsInside text) ms → All (IsInside text) (take n ms)
inside-take text zero ms inside = All-nil (IsInside text)
inside-take text (suc n) [] inside = All-nil (IsInside text)
inside-take text (suc n) (m ∷ ms) inside =
    All-cons (IsInside text) m (take n ms) (All-head (IsInside text) m ms inside) (inside-take text n ms (All-tail (IsInside text) m ms inside))
