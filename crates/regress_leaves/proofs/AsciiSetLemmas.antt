-- Sets of ASCII characters.
use Rattle.std.proofs.Common.{◌≡◌, ◌↔◌, ◌⊎◌, ⊎_elim, ◌<◌, ◌≤◌, ◌||◌, ◌&&◌, ◌==◌, ◌∷◌, ◌+◌, ℕ, Bool, true, false, List, Some, IsTrue, min, encode_utf8, slice_get, unwrap_or, drop, length, nat_le, nat_lt, inl, inr, refl, sym, ap, subst, ◌∙◌, arith}
use Rattle.std.proofs.lemmas.Bool.{and_from, and_parts, le-leb, leb-true, or_left, or_right, or_cases}
use Rattle.std.proofs.lemmas.Bool.Decides.{nat_tests}
use Rattle.std.proofs.lemmas.List.{drop_all}
use Rattle.std.proofs.lemmas.Str.{encode_ascii}
use Rattle.regress_base.specs.FirstBytes.{IsFirstByteBetween}
use Rattle.regress_base.specs.ByteSets.{bytes_of}
use Rattle.regress_base.specs.Intervals.{Bounds, IsCanonical, is_canonical_from, is_member, is_within}
use Rattle.regress_base.specs.Listing.{lists}
use Rattle.regress_base.proofs.lemmas.Sets.{canonical_parts, canonical_lower, from_first, is_member-nil, is_member-cons, is_within_reports, no_member_below}
use Rattle.regress_tree.specs.Assertions.{is_line_terminator}

same_bool : (x y : Bool) → (x ≡ true → y ≡ true) → (y ≡ true → x ≡ true) → x ≡ y
same_bool true y to from = sym (to refl)
same_bool false true to from = from refl
same_bool false false to from = refl

first_byte : (c b : ℕ) → c < 128 → slice_get (encode_utf8 c) 0 ≡ Some b → c ≡ b
first_byte c b low is = ap (λ o. unwrap_or o 0) (sym (ap (λ bytes. slice_get bytes 0) (encode_ascii c low)) ∙ is)

-- an ASCII character is its own first byte
pub run_added : (new old : Bool) (first last b : ℕ) → last < 128 → (IsTrue new ↔ (IsTrue old ⊎ IsFirstByteBetween first last b)) →
    new ≡ (nat_le first b && nat_le b last || old)
run_added new old first last b ascii iff =
    let within = nat_le first b && nat_le b last in
    let to : new ≡ true → (within || old) ≡ true = λ is.
    ⊎_elim
    (λ kept. or_right within old kept)
    (λ between.
    let same = first_byte between.code_point b (omega (arith, ascii, between.to_last)) between.begins in
    or_left within old
    (and_from (nat_le first b) (nat_le b last) (le-leb first b (omega (arith, same, between.from_first))) (le-leb b last (omega (arith, same, between.to_last)))))
    (iff.0 is) in
    let from : (within || old) ≡ true → new ≡ true = λ is.
    ⊎_elim
    (λ run.
    let both = and_parts (nat_le first b) (nat_le b last) run in
    let low = leb-true b last both.1 in
    iff.1 (inr (record {
      code_point = b;
      from_first = leb-true first b both.0;
      to_last = low;
      begins = ap (λ bytes. slice_get bytes 0) (encode_ascii b (omega (arith, ascii, low)));
    })))
    (λ kept. iff.1 (inl kept))
    (or_cases within old is) in
    same_bool new (within || old) to from

-- ---- lists

pub bytes_listed : (xs : List ℕ) (b : ℕ) → b < 128 → bytes_of xs b ≡ lists xs b
unfolding bytes_of
bytes_listed xs b low =
    let inside : nat_lt b 256 ≡ true = grind (arith, nat_tests, low) in
    ap (λ x. x && lists xs b) inside

pub terminators_listed : (b : ℕ) → b < 128 → (b == 0x0D || b == 0x0A) ≡ is_line_terminator b
unfolding is_member is_within
terminators_listed b low = grind (arith, nat_tests, low)

-- ---- intervals

or_nothing : (x y : Bool) → y ≡ false → x ≡ (x || y)
or_nothing true y is = refl
or_nothing false y is = sym is

reordered : (x y z : Bool) → ((x || y) || z) ≡ (y || (x || z))
reordered true true z = refl
reordered true false z = refl
reordered false true z = refl
reordered false false z = refl

cut_off : (iv : Bounds) (first last b : ℕ) → first ≡ iv.first → last ≡ min iv.last 127 → b < 128 → (nat_le first b && nat_le b last) ≡ is_within iv b
cut_off iv first last b is top low = grind (arith, nat_tests, is, top, low, is_within_reports iv b)

module _ (ivs : List Bounds) (i : ℕ) (f : ℕ → Bool) (ascend : IsCanonical (drop i ivs))
    (members : (b : ℕ) → b < 128 → (f b || is_member (drop i ivs) b) ≡ is_member ivs b) where
  -- no interval is left
  pub all_visited : length ivs ≤ i → (b : ℕ) → b < 128 → f b ≡ is_member ivs b
  all_visited end b low = or_nothing (f b) _ (ap (λ l. is_member l b) (drop_all i ivs end) ∙ is_member-nil b) ∙ members b low

  module _ (iv : Bounds) (rest : List Bounds) (split : drop i ivs ≡ iv ∷ rest) where
    ascending : IsTrue (is_canonical_from 0 (iv ∷ rest))
    ascending = subst (λ l. IsTrue (is_canonical_from 0 l)) split ascend

    first_member : (b : ℕ) → is_member (drop i ivs) b ≡ is_member (iv ∷ rest) b
    first_member b = ap (λ l. is_member l b) split

    -- the intervals that are left are beyond ASCII
    pub beyond : 128 ≤ iv.first → (b : ℕ) → b < 128 → f b ≡ is_member ivs b
    beyond high b low =
        or_nothing (f b) _ (first_member b ∙ no_member_below iv.first (iv ∷ rest) b (from_first 0 iv rest ascending) (omega (arith, high, low)))
        ∙ members b low

    pub still_ascending : IsCanonical rest
    still_ascending = canonical_lower (iv.last + 2) 0 rest (omega arith) (canonical_parts 0 iv rest ascending).rest

    -- an interval is added
    pub members_more : (g : ℕ → Bool) (first last : ℕ) → first ≡ iv.first → last ≡ min iv.last 127 →
        ((b : ℕ) → g b ≡ (nat_le first b && nat_le b last || f b)) → (b : ℕ) → b < 128 → (g b || is_member rest b) ≡ is_member ivs b
    members_more g first last is top step b low =
        ap (λ x. x || is_member rest b) (step b ∙ ap (λ x. x || f b) (cut_off iv first last b is top low))
        ∙ reordered (is_within iv b) (f b) (is_member rest b)
        ∙ ap (λ x. f b || x) (sym (first_member b ∙ is_member-cons iv rest b))
        ∙ members b low
