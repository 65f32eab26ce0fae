-- Sets of characters with the same members.
use Rattle.std.proofs.Common.{◌≡◌, ℕ, ◌<◌, ◌≤◌, Bool, true, false, ◌||◌, nat_le, List, [], ◌∷◌, ◌++◌, refl, sym, ap, ap₂, ◌∙◌, arith, ◌⊎◌, inl, inr, ⊎_elim}
use Rattle.std.proofs.lemmas.Bool.{cases_lt, false≢true}
use Rattle.std.proofs.lemmas.Bool.Decides.{nat_tests}
use Rattle.regress_base.specs.Intervals.{Bounds, code_point_max, is_member, is_within, intervals_of}
use Rattle.regress_base.proofs.lemmas.Sets.{is_member-append, intervals_of-canonical, intervals_of-member, no_member_past_end}
use Rattle.regress_classes.specs.ClassProductions.{one_point}
use Rattle.regress_ecma.specs.Notation.{CharSet}
use Rattle.regress_ecma.proofs.Members.{or-right}

-- Both have the same members.
pub record IsSame (set' members : CharSet) : Type 0 where
  pub same : (c : ℕ) → is_member set' c ≡ is_member members c

pub same_lists : (set' members : CharSet) → set' ≡ members → IsSame set' members
same_lists set' members e = record { same = λ c. ap (λ (s : CharSet). is_member s c) e }

pub same_then : (a b c : CharSet) → IsSame a b → IsSame b c → IsSame a c
same_then a b c first second = record { same = λ x. first.same x ∙ second.same x }

pub same_append : (a b m n : CharSet) → IsSame a m → IsSame b n → IsSame (a ++ b) (m ++ n)
same_append a b m n first second = record {
  same = λ c. is_member-append a b c ∙ ap₂ (λ (x y : Bool). x || y) (first.same c) (second.same c) ∙ sym (is_member-append m n c);
}

-- a set of code points, and the intervals of the test that its members pass
pub same_intervals : (set' : CharSet) (test : ℕ → Bool) → ((c : ℕ) → code_point_max < c → is_member set' c ≡ false) →
    ((c : ℕ) → c ≤ code_point_max → is_member set' c ≡ test c) → IsSame set' (intervals_of test)
same_intervals set' test none within = record {
  same = λ c.
      ⊎_elim
      (λ (past : code_point_max < c). none c past ∙ sym (no_member_past_end (intervals_of test) c (intervals_of-canonical test) past))
      (λ (le : c ≤ code_point_max). within c le ∙ sym (intervals_of-member test c le))
      (cases_lt code_point_max c);
}

pub in_left : (a b : CharSet) (c : ℕ) → is_member a c ≡ true → is_member (a ++ b) c ≡ true
in_left a b c member = is_member-append a b c ∙ ap (λ (x : Bool). x || is_member b c) member

pub in_right : (a b : CharSet) (c : ℕ) → is_member b c ≡ true → is_member (a ++ b) c ≡ true
in_right a b c member = is_member-append a b c ∙ ap (λ (x : Bool). is_member a c || x) member ∙ or-right (is_member a c)

-- ---- single code points and intervals

pub only_one : (b c : ℕ) → is_member (one_point b) c ≡ true → c ≡ b
unfolding is_member is_within
only_one b c h = grind (arith, nat_tests, h)

pub one_is : (b c : ℕ) → c ≡ b → is_member (one_point b) c ≡ true
unfolding is_member is_within
one_is b c e = grind (arith, nat_tests, e)

-- both ends of an interval are members
pub ends_within : (a b c : ℕ) → nat_le a b ≡ true → (c ≡ a) ⊎ (c ≡ b) → is_member (record { first = a; last = b } ∷ []) c ≡ true
unfolding is_member is_within
ends_within a b c ordered (inl e) = grind (arith, nat_tests, ordered, e)
ends_within a b c ordered (inr e) = grind (arith, nat_tests, ordered, e)

-- ---- unions

or_absorbed : (x r p q s z w : Bool) → (p ≡ true → s ≡ true) → (q ≡ true → r ≡ true) →
    (x || (r || (s || (z || w)))) ≡ (((x || (r || p)) || (q || (s || z))) || w)
or_absorbed true r p q s z w h k = refl
or_absorbed false true p q s z w h k = refl
or_absorbed false false true q true z w h k = refl
or_absorbed false false true q false z w h k = absurd (false≢true (h refl))
or_absorbed false false false true s z w h k = absurd (false≢true (k refl))
or_absorbed false false false false true z w h k = refl
or_absorbed false false false false false z w h k = refl

-- Parts whose members others have do not count.
pub absorbed : (x r p q s z w : List Bounds) → ((c : ℕ) → is_member p c ≡ true → is_member s c ≡ true) →
    ((c : ℕ) → is_member q c ≡ true → is_member r c ≡ true) →
    IsSame (x ++ (r ++ (s ++ (z ++ w)))) (((x ++ (r ++ p)) ++ (q ++ (s ++ z))) ++ w)
absorbed x r p q s z w h k = record {
  same = λ c.
      simp is_member-append
      (or_absorbed (is_member x c) (is_member r c) (is_member p c) (is_member q c) (is_member s c) (is_member z c) (is_member w c) (h c) (k c));
}
