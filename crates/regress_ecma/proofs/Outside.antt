-- Intervals that have no number of a set, or only numbers of it.
use Rattle.std.proofs.Common.{◌≡◌, ℕ, Bool, true, false, ◌&&◌, ◌||◌, nat_le, nat_lt, List, [], ◌∷◌, refl, arith}
use Rattle.std.specs.List.{list_any, list_all}
use Rattle.std.proofs.lemmas.Bool.{and_parts, false≢true}
use Rattle.std.proofs.lemmas.Bool.Decides.{nat_tests}
use Rattle.regress_base.specs.Intervals.{Bounds, is_member, is_within}

-- no number between the bounds is in the set
abbrev pub is_outside : List Bounds → Bounds → Bool
is_outside set iv = list_all (λ other. nat_lt iv.last other.first || nat_lt other.last iv.first) set

-- all numbers between the bounds are in the set
abbrev pub is_inside : List Bounds → Bounds → Bool
is_inside set iv = list_any (λ other. nat_le other.first iv.first && nat_le iv.last other.last) set

pub not_outside : (set : List Bounds) (iv : Bounds) (c : ℕ) → is_outside set iv ≡ true → is_within iv c ≡ true → is_member set c ≡ true → ⊥
unfolding is_member is_within
not_outside [] iv c h within member = false≢true member
not_outside (other ∷ set) iv c h within member =
    let parts = and_parts (nat_lt iv.last other.first || nat_lt other.last iv.first) _ h in
    let not_here : (nat_le other.first c && nat_le c other.last) ≡ false = grind (arith, nat_tests, parts.0, within) in
    not_outside set iv c parts.1 within (rw not_here at member)

pub inside : (set : List Bounds) (iv : Bounds) (c : ℕ) → is_inside set iv ≡ true → is_within iv c ≡ true → is_member set c ≡ true
unfolding is_member is_within
inside [] iv c h within = h
inside (other ∷ set) iv c h within =
    by_tests (is_within other c) (nat_le other.first iv.first && nat_le iv.last other.last) refl refl h (λ t. inside set iv c t within)
  where
    by_tests : (here test : Bool) → is_within other c ≡ here → (nat_le other.first iv.first && nat_le iv.last other.last) ≡ test →
        (test || is_inside set iv) ≡ true → (is_inside set iv ≡ true → is_member set c ≡ true) → (here || is_member set c) ≡ true
    by_tests true test e t h later = refl
    by_tests false true e t h later = absurd (grind (arith, nat_tests, e, t, within))
    by_tests false false e t h later = later h

-- a member between the first bounds makes what is between the second ones a member
pub carried : (set : List Bounds) (from to : Bounds) (a b : ℕ) → (is_outside set from || is_inside set to) ≡ true →
    is_within from a ≡ true → is_within to b ≡ true → is_member set a ≡ true → is_member set b ≡ true
carried set from to a b h from_a to_b member = by_test (is_outside set from) refl h
  where
    by_test : (none : Bool) → is_outside set from ≡ none → (none || is_inside set to) ≡ true → is_member set b ≡ true
    by_test true e t = absurd (not_outside set from a e from_a member)
    by_test false e t = inside set to b t to_b

-- a set none of whose intervals has a number of another set
pub apart : (other set : List Bounds) → list_all (is_outside other) set ≡ true → (c : ℕ) → is_member set c ≡ true → is_member other c ≡ false
unfolding is_member
apart other [] h c member = absurd (false≢true member)
apart other (iv ∷ set) h c member =
    let parts = and_parts (is_outside other iv) (list_all (is_outside other) set) h in
    by_test (is_within iv c) (is_member other c) refl refl member (apart other set parts.1 c) parts.0
  where
    by_test : (here among : Bool) → is_within iv c ≡ here → is_member other c ≡ among → (here || is_member set c) ≡ true →
        (is_member set c ≡ true → is_member other c ≡ false) → is_outside other iv ≡ true → is_member other c ≡ false
    by_test here false e f t later none = f
    by_test true true e f t later none = absurd (not_outside other iv c none e f)
    by_test false true e f t later none = later t
