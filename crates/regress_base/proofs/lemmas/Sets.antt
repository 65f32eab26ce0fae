-- Lemmas on sets of code points, for the crates above. Lemmas in a `pub use` have their comments where they are proved.
pub use Rattle.regress_base.proofs.MemberLemmas.{or_assoc, is_member-nil, is_member-cons, is_member-one, is_member-append, is_member-take_more}
pub use Rattle.regress_base.proofs.WithinLemmas.{is_within_reports, is_within-true, le-is_within, lt-is_within, gt-is_within}
pub use Rattle.regress_base.proofs.CanonicalLemmas.{canonical_parts, canonical_cons, canonical_lower, from_first}
pub use Rattle.regress_base.proofs.CanonicalLemmas.{member_above, no_member_below, no_member_past_end}
pub use Rattle.regress_base.proofs.UniqueLemmas.{canonical_unique}
pub use Rattle.regress_base.proofs.GapsLemmas.{complement_from}
unfoldable pub use Rattle.regress_base.proofs.GapsLemmas.{gaps_from}
use Rattle.std.proofs.Common.{◌≡◌, ℕ, zero, suc, ◌+◌, ◌*◌, ◌<◌, ◌≤◌, ◌==◌, Bool, true, false, ◌||◌, inl, inr, IsTrue, List, [], ◌∷◌, length, refl, sym, ap, ◌∙◌, subst, le_refl, arith}
use Rattle.std.proofs.lemmas.Bool.{cases_eq, cases_Bool, cond-true, cond-false, or_left, eq-eqb, ne_eqb}
use Rattle.std.proofs.lemmas.Bool.Decides.{nat_tests}
use Rattle.regress_base.specs.Intervals.{Bounds, code_point_max, is_within, is_member, is_canonical_from, IsCanonical, put_before, intervals_from, intervals_of}
use Rattle.regress_base.proofs.WithinLemmas.{pair, is_within_one}

-- ---- one more code point

put_before-none : (c : ℕ) → put_before c [] ≡ pair c c ∷ []
unfolding put_before
put_before-none c = refl

put_before-touching : (c : ℕ) (iv : Bounds) (ivs : List Bounds) → iv.first ≡ c + 1 → put_before c (iv ∷ ivs) ≡ pair c iv.last ∷ ivs
unfolding put_before
put_before-touching c iv ivs e = cond-true _ _ _ (eq-eqb iv.first (c + 1) e)

put_before-apart : (c : ℕ) (iv : Bounds) (ivs : List Bounds) → (iv.first ≡ c + 1 → ⊥) → put_before c (iv ∷ ivs) ≡ pair c c ∷ iv ∷ ivs
unfolding put_before
put_before-apart c iv ivs ne = cond-false _ _ _ (ne_eqb iv.first (c + 1) ne)

put_before-canonical : (c : ℕ) (ivs : List Bounds) → c ≤ code_point_max → IsTrue (is_canonical_from (c + 1) ivs)
    → IsTrue (is_canonical_from c (put_before c ivs))
put_before-canonical c [] h can =
    subst (λ (l : List Bounds). IsTrue (is_canonical_from c l)) (sym (put_before-none c))
    (canonical_cons c (pair c c) [] (record { above = le_refl c; interval = record { ordered = le_refl c; in_range = h }; rest = refl }))
put_before-canonical c (iv ∷ ivs) h can =
    let p = canonical_parts (c + 1) iv ivs can in
    elim (cases_eq iv.first (c + 1)) [
      | inl touches ↦
          subst (λ (l : List Bounds). IsTrue (is_canonical_from c l)) (sym (put_before-touching c iv ivs touches))
          (canonical_cons c (pair c iv.last) ivs (record {
            above = le_refl c;
            interval = record { ordered = omega (arith, p.above, p.interval.ordered); in_range = p.interval.in_range };
            rest = p.rest;
          }))
      | inr apart ↦
          subst (λ (l : List Bounds). IsTrue (is_canonical_from c l)) (sym (put_before-apart c iv ivs apart))
          (canonical_cons c (pair c c) (iv ∷ ivs) (record {
            above = le_refl c;
            interval = record { ordered = le_refl c; in_range = h };
            rest = canonical_cons (c + 2) iv ivs (record { above = omega (arith, p.above); interval = p.interval; rest = p.rest });
          }))
    ]

-- an interval that begins at c + 1, extended by c
grown : (c b : ℕ) (iv : Bounds) → iv.first ≡ c + 1 → iv.first ≤ iv.last → is_within (pair c iv.last) b ≡ ((b == c) || is_within iv b)
grown c b iv touches ordered = grind (arith, nat_tests, is_within_reports (pair c iv.last) b, is_within_reports iv b)

put_before-member : (c b : ℕ) (ivs : List Bounds) → IsTrue (is_canonical_from (c + 1) ivs)
    → is_member (put_before c ivs) b ≡ ((b == c) || is_member ivs b)
put_before-member c b [] can =
    ap (λ l. is_member l b) (put_before-none c) ∙ is_member-cons (pair c c) [] b
    ∙ ap (λ t. t || is_member [] b) (is_within_one c c b refl)
put_before-member c b (iv ∷ ivs) can =
    let p = canonical_parts (c + 1) iv ivs can in
    elim (cases_eq iv.first (c + 1)) [
      | inl touches ↦
          ap (λ l. is_member l b) (put_before-touching c iv ivs touches) ∙ is_member-cons (pair c iv.last) ivs b
          ∙ ap (λ t. t || is_member ivs b) (grown c b iv touches p.interval.ordered)
          ∙ sym (or_assoc (b == c) (is_within iv b) (is_member ivs b))
          ∙ ap (λ t. (b == c) || t) (sym (is_member-cons iv ivs b))
      | inr apart ↦
          ap (λ l. is_member l b) (put_before-apart c iv ivs apart) ∙ is_member-cons (pair c c) (iv ∷ ivs) b
          ∙ ap (λ t. t || is_member (iv ∷ ivs) b) (is_within_one c c b refl)
    ]

-- ---- the list of the numbers that pass a test

from-passes : (p : ℕ → Bool) (low n : ℕ) → p low ≡ true → intervals_from p low (suc n) ≡ put_before low (intervals_from p (low + 1) n)
unfolding intervals_from
from-passes p low n passes = cond-true _ _ _ passes

from-fails : (p : ℕ → Bool) (low n : ℕ) → p low ≡ false → intervals_from p low (suc n) ≡ intervals_from p (low + 1) n
unfolding intervals_from
from-fails p low n fails = cond-false _ _ _ fails

from-none : (p : ℕ → Bool) (low : ℕ) → intervals_from p low zero ≡ []
unfolding intervals_from
from-none p low = refl

from-canonical : (p : ℕ → Bool) (low n : ℕ) → low + n ≤ code_point_max + 1 → IsTrue (is_canonical_from low (intervals_from p low n))
from-canonical p low zero h = subst (λ (l : List Bounds). IsTrue (is_canonical_from low l)) (sym (from-none p low)) refl
from-canonical p low (suc n) h =
    let rest = from-canonical p (low + 1) n (omega arith) in
    elim (cases_Bool (p low)) [
      | inl passes ↦
          subst (λ (l : List Bounds). IsTrue (is_canonical_from low l)) (sym (from-passes p low n passes))
          (put_before-canonical low (intervals_from p (low + 1) n) (omega arith) rest)
      | inr fails ↦
          subst (λ (l : List Bounds). IsTrue (is_canonical_from low l)) (sym (from-fails p low n fails))
          (canonical_lower (low + 1) low (intervals_from p (low + 1) n) (omega arith) rest)
    ]

from-member : (p : ℕ → Bool) (low n c : ℕ) → low + n ≤ code_point_max + 1 → low ≤ c → c < low + n
    → is_member (intervals_from p low n) c ≡ p c
from-member p low zero c h from to = absurd (omega arith)
from-member p low (suc n) c h from to =
    let can = from-canonical p (low + 1) n (omega arith) in
    let rest = intervals_from p (low + 1) n in
    elim (cases_Bool (p low)) [
      | inl passes ↦
          ap (λ l. is_member l c) (from-passes p low n passes) ∙ put_before-member low c rest can
          ∙ elim (cases_eq c low) [
            | inl here ↦ or_left _ _ (eq-eqb c low here) ∙ sym passes ∙ ap p (sym here)
            | inr later ↦ ap (λ t. t || is_member rest c) (ne_eqb c low later)
                ∙ from-member p (low + 1) n c (omega arith) (omega arith) (omega arith)
          ]
      | inr fails ↦
          ap (λ l. is_member l c) (from-fails p low n fails)
          ∙ elim (cases_eq c low) [
            | inl here ↦ no_member_below (low + 1) rest c can (omega arith) ∙ sym fails ∙ ap p (sym here)
            | inr later ↦ from-member p (low + 1) n c (omega arith) (omega arith) (omega arith)
          ]
    ]

-- ---- the lemmas for other crates

pub intervals_of-canonical : (p : ℕ → Bool) → IsCanonical (intervals_of p)
unfolding intervals_of
intervals_of-canonical p = from-canonical p 0 (code_point_max + 1) (omega arith)

pub intervals_of-member : (p : ℕ → Bool) (c : ℕ) → c ≤ code_point_max → is_member (intervals_of p) c ≡ p c
unfolding intervals_of
intervals_of-member p c h = from-member p 0 (code_point_max + 1) c (omega arith) (omega arith) (omega arith)

-- a canonical list whose members are those that pass the test is `intervals_of` it
pub canonical_is : (xs : List Bounds) (p : ℕ → Bool) → IsCanonical xs → ((c : ℕ) → c ≤ code_point_max → is_member xs c ≡ p c)
    → xs ≡ intervals_of p
canonical_is xs p can same =
    canonical_unique xs (intervals_of p) can (intervals_of-canonical p) (λ c h. same c h ∙ sym (intervals_of-member p c h))

-- tests that agree on the code points have the same intervals
pub intervals_of-agree : (p q : ℕ → Bool) → ((c : ℕ) → c ≤ code_point_max → p c ≡ q c) → intervals_of p ≡ intervals_of q
intervals_of-agree p q same =
    canonical_is (intervals_of p) q (intervals_of-canonical p) (λ c h. intervals_of-member p c h ∙ same c h)

-- ---- the number of intervals

canonical_from_length : (low : ℕ) (ivs : List Bounds) → low ≤ code_point_max + 2 → IsTrue (is_canonical_from low ivs) →
    low + 2 * length ivs ≤ code_point_max + 2
canonical_from_length low [] h can = omega arith
canonical_from_length low (iv ∷ ivs) h can =
    let p = canonical_parts low iv ivs can in
    let rest = canonical_from_length (iv.last + 2) ivs (omega (arith, p.interval.in_range)) p.rest in
    omega (arith, p.above, p.interval.ordered, rest)

-- a canonical list has at most half as many intervals as there are code points, since between two of them one is
-- missing
pub canonical_length : (ivs : List Bounds) → IsCanonical ivs → 2 * length ivs ≤ code_point_max + 2
canonical_length ivs can = omega (arith, canonical_from_length 0 ivs (omega arith) can)
