-- Matches in order: parts of a list, and a loop over them.
use Rattle.std.proofs.Common.{◌≡◌, ◌∙◌, ℕ, zero, suc, ◌+◌, ◌<◌, take, drop, get_or, length, ◌≤◌, List, [], ◌∷◌, All, sym, subst, ap, add-one, drop-cons, arith}
use Rattle.std.specs.Str.{IsCharBoundary}
use Rattle.regress_found.specs.Found.{start_of, IsInside}
use Rattle.regress_found.specs.declared.found.Match.{Match}
use Rattle.regress_replace.specs.Expansion.{end_of}
use Rattle.regress_replace.specs.Order.{AreInOrder}

pub AreInOrder-from : (from to : ℕ) (ms : List Match) → from ≤ to → AreInOrder to ms → AreInOrder from ms
AreInOrder-from from to [] below order = tt
AreInOrder-from from to (m ∷ ms) below order = (omega (arith, order.0), order.1)

pub AreInOrder-take : (n from : ℕ) (ms : List Match) → AreInOrder from ms → AreInOrder from (take n ms)
AreInOrder-take zero from ms order = tt
AreInOrder-take (suc n) from [] order = tt
AreInOrder-take (suc n) from (m ∷ ms) order = (order.0, AreInOrder-take n (end_of m) ms order.1)

-- the next match of a list
pub next_match : (ms : List Match) (i : ℕ) (m : Match) → i < length ms → m ≡ get_or ms i m → drop i ms ≡ m ∷ drop (i + 1) ms
next_match ms i m below is = rw add-one (drop-cons ms i m below ∙ ap (λ k. k ∷ drop (suc i) ms) (sym is))

-- a search of the text is at `from`, and these matches follow
pub record IsBefore (text : List ℕ) (from : ℕ) (ms : List Match) : Type 0 where
  pub boundary : IsCharBoundary text from
  pub order : AreInOrder from ms

pub match_inside : (text : List ℕ) (ms : List Match) (i : ℕ) (m : Match) → i < length ms → m ≡ get_or ms i m → All (IsInside text) ms →
    IsInside text m
match_inside text ms i m below is inside = subst (IsInside text) (sym is) (inside i m below)

pub before_first : (text : List ℕ) (from : ℕ) (ms : List Match) (i : ℕ) (m : Match) → i < length ms → m ≡ get_or ms i m →
    IsBefore text from (drop i ms) → (from ≤ start_of m) × AreInOrder (end_of m) (drop (i + 1) ms)
before_first text from ms i m below is before = subst (AreInOrder from) (next_match ms i m below is) before.order

pub before_next : (text : List ℕ) (from : ℕ) (ms : List Match) (i : ℕ) (m : Match) → i < length ms → m ≡ get_or ms i m →
    All (IsInside text) ms → IsBefore text from (drop i ms) → IsBefore text (end_of m) (drop (i + 1) ms)
before_next text from ms i m below is inside before = record {
  boundary = (match_inside text ms i m below is inside).span.end;
  order = (before_first text from ms i m below is before).1;
}
