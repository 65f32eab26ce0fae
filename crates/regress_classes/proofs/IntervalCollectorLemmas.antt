-- What the parser collects: a set, and all other intervals in the order in which they are written.
use Rattle.std.proofs.Common.{◌+◌, ◌<◌, ◌≤◌, max, suc, IsTrue, get_or, ap₂, subst, ◌≡◌, ℕ, Bool, true, false, ◌||◌, List, [], ◌∷◌, ◌++◌, IsPermutation, refl, sym, ap, ◌∙◌, arith}
use Rattle.std.specs.Prelude.{MatchBool}
use Rattle.std.specs.List.{list_any}
use Rattle.std.specs.List.Retain.{DedupsFrom, IsDeduped}
use Rattle.std.specs.List.Sorted.{IsNonDecreasingBy}
use Rattle.std.proofs.lemmas.Bool.Decides.{nat_tests}
use Rattle.std.proofs.lemmas.List.Sorted.{list_any-IsPermutation}
use Rattle.regress_base.specs.Intervals.{Bounds, IsInterval, is_within, is_member, is_canonical_from, IsCanonical}
use Rattle.regress_base.proofs.lemmas.Sets.{or_assoc, is_within_reports, canonical_cons, is_member-cons, is_member-one, is_member-append}
use Rattle.regress_classes.specs.ClassViews.{HasMembers}

-- One more interval.
pub interval_appended : (set later new : List Bounds) (iv : Bounds) (c : ℕ) → new ≡ later ++ iv ∷ [] →
    is_member (set ++ new) c ≡ (is_member (set ++ later) c || is_within iv c)
interval_appended set later new iv c e =
    is_member-append set new c
    ∙ ap (λ b. is_member set c || b) (ap (λ (l : List Bounds). is_member l c) e ∙ is_member-append later (iv ∷ []) c
    ∙ ap (λ b. is_member later c || b) (is_member-one iv c))
    ∙ or_assoc (is_member set c) (is_member later c) (is_within iv c)
    ∙ ap (λ b. b || is_within iv c) (sym (is_member-append set later c))

-- A set is taken as a whole where there is none yet.
pub set_taken : (set later new : List Bounds) (c : ℕ) → set ≡ [] →
    is_member (new ++ later) c ≡ (is_member (set ++ later) c || is_member new c)
set_taken set later new c none =
    is_member-append new later c ∙ or_swap (is_member new c) (is_member later c)
    ∙ ap (λ (l : List Bounds). is_member (l ++ later) c || is_member new c) (sym none)
  where
    or_swap : (x y : Bool) → (x || y) ≡ (y || x)
    or_swap true true = refl
    or_swap true false = refl
    or_swap false true = refl
    or_swap false false = refl

any_member : (ivs : List Bounds) (c : ℕ) → is_member ivs c ≡ list_any (λ iv. is_within iv c) ivs
unfolding is_member
any_member [] c = refl
any_member (iv ∷ ivs) c = ap (λ b. is_within iv c || b) (any_member ivs c)

-- The order of the intervals does not change their members.
pub in_order : (list sorted new : List Bounds) → IsPermutation list sorted → ((c : ℕ) → is_member new c ≡ is_member sorted c) → IsCanonical new →
    HasMembers list new
in_order list sorted new permutation joined canonical = record {
  canonical = canonical;
  each = λ c. joined c ∙ any_member sorted c ∙ sym (list_any-IsPermutation (λ iv. is_within iv c) list sorted permutation) ∙ sym (any_member list c);
}

pub set_and : (set list new : List Bounds) → IsCanonical new → ((c : ℕ) → is_member new c ≡ (is_member set c || is_member list c)) →
    HasMembers (set ++ list) new
set_and set list new canonical joined = record {
  canonical = canonical;
  each = λ c. joined c ∙ sym (is_member-append set list c);
}

-- ---- merged neighbours

-- The next interval starts at `low` or later, and each other one no earlier than the one before it.
abbrev pub Ascends : ℕ → List Bounds → Type 0
Ascends low [] = Unit {0}
Ascends low (iv ∷ ivs) = (low ≤ iv.first) × Ascends iv.first ivs

ascends_lower : (low low' : ℕ) (ivs : List Bounds) → low' ≤ low → Ascends low ivs → Ascends low' ivs
ascends_lower low low' [] less h = tt
ascends_lower low low' (iv ∷ ivs) less h = (omega (arith, less, h.0), h.1)

pub ascends_from : (iv : Bounds) (ivs : List Bounds) → IsNonDecreasingBy (λ iv. iv.first) (iv ∷ ivs) → Ascends iv.first ivs
ascends_from iv [] h = tt
ascends_from iv (next ∷ ivs) h =
    (h 0 1 iv (omega arith) (omega arith), ascends_from next ivs (λ i j d le lt. h (suc i) (suc j) d (omega arith) (omega arith)))

-- the interval that extends to the end of the next one
abbrev pub extended_to : (last next : Bounds) → Bounds
extended_to last next = record { first = last.first; last = max last.last next.last }

reaching_members : (last next : Bounds) (c : ℕ) → last.first ≤ next.first → next.first ≤ last.last + 1 →
    is_within (extended_to last next) c ≡ (is_within last c || is_within next c)
reaching_members last next c order near =
    grind (arith, nat_tests, order, near, is_within_reports last c, is_within_reports next c, is_within_reports (extended_to last next) c)

reaching_interval : (last next : Bounds) → IsInterval last → IsInterval next → IsInterval (extended_to last next)
reaching_interval last next a b = record { ordered = omega (arith, a.ordered); in_range = omega (arith, a.in_range, b.in_range) }

module _ {S : Type 0} (R : S → Bounds → Bounds → Bool → S → Bounds → Bounds → Type 0)
    (next_interval : (s : S) (x k : Bounds) (b : Bool) (t : S) (x' k' : Bounds) → R s x k b t x' k' → IsInterval x)
    (next_stays : (s : S) (x k : Bounds) (b : Bool) (t : S) (x' k' : Bounds) → R s x k b t x' k' → x' ≡ x)
    (reaches : (s : S) (x k : Bounds) (b : Bool) (t : S) (x' k' : Bounds) → R s x k b t x' k' →
    MatchBool b ((x.first ≤ k.last + 1) × (k' ≡ extended_to k x)) ((k.last + 1 < x.first) × (k' ≡ k))) where
  canonical_after : (low : ℕ) (s : S) (k : Bounds) (xs ys : List Bounds) → DedupsFrom R s k xs ys → IsInterval k → low ≤ k.first →
      IsTrue (is_canonical_from low ys)
  canonical_after low s k [] ys is interval above =
      subst (λ (l : List Bounds). IsTrue (is_canonical_from low l)) (sym is)
      (canonical_cons low k [] (record { above = above; interval = interval; rest = refl }))
  canonical_after low s k (x ∷ xs) ys (true, t, x', k', r, rest) interval above =
      let joined = (reaches s x k true t x' k' r).1 in
      canonical_after low t k' xs ys rest
      (subst IsInterval (sym joined) (reaching_interval k x interval (next_interval s x k true t x' k' r)))
      (subst (λ (iv : Bounds). low ≤ iv.first) (sym joined) above)
  canonical_after low s k (x ∷ xs) ys (false, t, x', k', r, (zs, rest, is)) interval above =
      let apart = reaches s x k false t x' k' r in
      let same = next_stays s x k false t x' k' r in
      subst (λ (l : List Bounds). IsTrue (is_canonical_from low l)) (sym (is ∙ ap (λ (iv : Bounds). iv ∷ zs) apart.1))
      (canonical_cons low k zs (record {
        above = above;
        interval = interval;
        rest = canonical_after (k.last + 2) t x' xs zs rest (subst IsInterval (sym same) (next_interval s x k false t x' k' r))
            (subst (λ (iv : Bounds). k.last + 2 ≤ iv.first) (sym same) (omega (arith, apart.0)));
      }))

  members_after : (s : S) (k : Bounds) (xs ys : List Bounds) → DedupsFrom R s k xs ys → Ascends k.first xs → (c : ℕ) →
      is_member ys c ≡ (is_within k c || is_member xs c)
  members_after s k [] ys is order c = ap (λ (l : List Bounds). is_member l c) is ∙ is_member-cons k [] c
  members_after s k (x ∷ xs) ys (true, t, x', k', r, rest) order c =
      let joined = reaches s x k true t x' k' r in
      members_after t k' xs ys rest
      (subst (λ (iv : Bounds). Ascends iv.first xs) (sym joined.1) (ascends_lower x.first k.first xs order.0 order.1)) c
      ∙ ap (λ b. b || is_member xs c) (ap (λ (iv : Bounds). is_within iv c) joined.1 ∙ reaching_members k x c order.0 joined.0)
      ∙ sym (or_assoc (is_within k c) (is_within x c) (is_member xs c))
      ∙ ap (λ b. is_within k c || b) (sym (is_member-cons x xs c))
  members_after s k (x ∷ xs) ys (false, t, x', k', r, (zs, rest, is)) order c =
      let same = next_stays s x k false t x' k' r in
      ap (λ (l : List Bounds). is_member l c) is ∙ is_member-cons k' zs c
      ∙ ap₂ ◌||◌ (ap (λ (iv : Bounds). is_within iv c) (reaches s x k false t x' k' r).1)
      (members_after t x' xs zs rest (subst (λ (iv : Bounds). Ascends iv.first xs) (sym same) order.1) c
      ∙ ap (λ (iv : Bounds). is_within iv c || is_member xs c) same ∙ sym (is_member-cons x xs c))

  pub joined_canonical : (s : S) (xs ys : List Bounds) (d : Bounds) → IsDeduped R s xs ys → IsInterval (get_or xs 0 d) → IsCanonical ys
  joined_canonical s [] ys d is interval = subst IsCanonical (sym is.told) refl
  joined_canonical s (x ∷ xs) ys d is interval = canonical_after 0 s x xs ys is.told interval (omega arith)

  pub joined_members : (s : S) (xs ys : List Bounds) → IsDeduped R s xs ys → IsNonDecreasingBy (λ iv. iv.first) xs → (c : ℕ) →
      is_member ys c ≡ is_member xs c
  joined_members s [] ys is order c = ap (λ (l : List Bounds). is_member l c) is.told
  joined_members s (x ∷ xs) ys is order c = members_after s x xs ys is.told (ascends_from x xs order) c ∙ sym (is_member-cons x xs c)
