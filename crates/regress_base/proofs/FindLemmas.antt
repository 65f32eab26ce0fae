-- Properties of the loops that search for the least index.
use Rattle.std.proofs.Common.{◌≡◌, ℕ, zero, suc, ◌+◌, ◌*◌, ◌/◌, ◌<◌, ◌≤◌, Bool, true, false, ◌||◌, eqb, List, [], ◌∷◌, length, get_or, take, drop, ◌-◌, Decides, refl, ap, sym, subst, ◌∙◌, arith, inl, inr, below_more, not-suc-le-zero, le_of_suc-le-suc}
use Rattle.std.specs.Simd.{first_chunks}
use Rattle.std.proofs.Math.Bool.{or-false}
use Rattle.std.specs.List.{starts_with}
use Rattle.std.specs.Str.{bytes_eq}
use Rattle.std.proofs.lemmas.List.{take_rest, drop-drop, length-drop, length-take-le, get_or-take, get_or-drop}
use Rattle.std.proofs.lemmas.Slice.Eq.{bytes_eq-Decides}
use Rattle.std.proofs.lemmas.Bool.{false≢true, cases_lt, lt-ltb, eq-eqb, ne_eqb, cases_eq}
use Rattle.regress_base.specs.ByteSets.{bytes_of}
use Rattle.regress_base.specs.Positions.{IsLeastAt, IsMemberAt, OccursAt, DecidesMembership}

-- no byte of the text before index n is a member
abbrev pub NoneBefore : (ℕ → Bool) → List ℕ → ℕ → Type 0
NoneBefore set text n = (k : ℕ) → k < n → ¬ (IsMemberAt set text k)

pub none_past : (set : ℕ → Bool) (text : List ℕ) → NoneBefore set text (length text) → (k : ℕ) → k ≤ length text → ¬ (IsMemberAt set text k)
none_past set text none k h at = none k at.inside at

-- one more byte, which fails the test
pub none_more : (says : ℕ → Bool → Type 0) (set : ℕ → Bool) (text : List ℕ) (i : ℕ) → DecidesMembership says set → get_or text i 0 < 256
    → says (get_or text i 0) false → NoneBefore set text i → NoneBefore set text (i + 1)
none_more says set text i reports byte failed none =
    below_more _ _ none (λ at. false≢true (reports (get_or text i 0) false byte failed ∙ at.member))

-- the first byte that passes the test is at the least index
pub first_found : (says : ℕ → Bool → Type 0) (set : ℕ → Bool) (text : List ℕ) (i : ℕ) → DecidesMembership says set → get_or text i 0 < 256
    → says (get_or text i 0) true → NoneBefore set text i → i < length text → IsLeastAt (IsMemberAt set text) (length text) i
first_found says set text i reports byte passed none inside = record {
  within = omega arith;
  occurs = record { inside = inside; member = sym (reports (get_or text i 0) true byte passed) };
  before = none;
}

-- ---- a search by chunks

-- the part is a slice of the text that begins at index n
pub record IsStretch (text : List ℕ) (n : ℕ) (part : List ℕ) : Type 0 where
  pub within : n + length part ≤ length text
  pub same : (k : ℕ) → k < length part → get_or part k 0 ≡ get_or text (n + k) 0

member_of_part : (set : ℕ → Bool) (text : List ℕ) (n : ℕ) (part : List ℕ) (k : ℕ) → IsStretch text n part → k < length part
    → IsMemberAt set text (n + k) → IsMemberAt set part k
member_of_part set text n part k at inside here = record { inside = inside; member = ap set (at.same k inside) ∙ here.member }

-- no member is in the part
pub none_in_part : (set : ℕ → Bool) (text : List ℕ) (n : ℕ) (part : List ℕ) → IsStretch text n part → NoneBefore set text n
    → ((k : ℕ) → k ≤ length part → ¬ (IsMemberAt set part k)) → NoneBefore set text (n + length part)
none_in_part set text n part at none nowhere = λ k h here.
    elim (cases_lt k n) [
      | inl before ↦ none k before here
      | inr from ↦ (let e : n + (k - n) ≡ k = omega arith in
          nowhere (k - n) (omega arith)
          (member_of_part set text n part (k - n) at (omega arith) (subst (IsMemberAt set text) (sym e) here)))
    ]

-- the least member of a part, with no member before the part
pub found_in_part : (set : ℕ → Bool) (text : List ℕ) (n : ℕ) (part : List ℕ) (k : ℕ) → IsStretch text n part → NoneBefore set text n
    → IsLeastAt (IsMemberAt set part) (length part) k → IsLeastAt (IsMemberAt set text) (length text) (n + k)
found_in_part set text n part k at none least =
    let inside = least.occurs.inside in
    let within = at.within in
    record {
      within = omega arith;
      occurs = record { inside = omega arith; member = ap set (sym (at.same k inside)) ∙ least.occurs.member };
      before = λ j h here. elim (cases_lt j n) [
        | inl before ↦ none j before here
        | inr from ↦ (let e : n + (j - n) ≡ j = omega arith in
            least.before (j - n) (omega arith)
            (member_of_part set text n part (j - n) at (omega arith) (subst (IsMemberAt set text) (sym e) here)))
      ];
    }

-- the chunks of a list, in order
chunk_at : (n m : ℕ) (xs : List ℕ) (k : ℕ) (d : List ℕ) → k < m → get_or (first_chunks n m xs) k d ≡ take n (drop (k * n) xs)
chunk_at n zero xs k d h = absurd (not-suc-le-zero h)
chunk_at n (suc m) xs zero d h =
    let e : 0 * n ≡ 0 = omega arith in
    ap (λ j. take n (drop j xs)) (sym e)
chunk_at n (suc m) xs (suc k) d h =
    let e : n + k * n ≡ suc k * n = omega arith in
    chunk_at n m (drop n xs) k d (le_of_suc-le-suc h) ∙ ap (take n) (drop-drop (k * n) n xs ∙ ap (λ j. drop j xs) e)

pub chunk-IsStretch : (xs : List ℕ) (chunks : List (List ℕ)) (k : ℕ) → chunks ≡ first_chunks 4 (length xs / 4) xs → k < length xs / 4
    → IsStretch xs (k * 4) (get_or chunks k []) × (length (get_or chunks k []) ≡ 4)
chunk-IsStretch xs chunks k made h =
    let is : get_or chunks k [] ≡ take 4 (drop (k * 4) xs) =
    ap (λ (l : List (List ℕ)). get_or l k []) made ∙ chunk_at 4 (length xs / 4) xs k [] h in
    let room : k * 4 + 4 ≤ length xs = omega arith in
    let left = length-drop (k * 4) xs in
    let four : length (get_or chunks k []) ≡ 4 = ap length is ∙ length-take-le 4 (drop (k * 4) xs) (omega arith) in (
      record {
        within = omega arith;
        same = λ j inside. ap (λ l. get_or l j 0) is ∙ get_or-take 4 (drop (k * 4) xs) j 0 (omega arith) ∙ get_or-drop (k * 4) xs j 0;
      },
      four,
    )

pub rest-IsStretch : (xs rest : List ℕ) (n : ℕ) → n ≡ length xs / 4 → rest ≡ drop (length xs / 4 * 4) xs
    → IsStretch xs (n * 4) rest × (n * 4 + length rest ≡ length xs)
rest-IsStretch xs rest n count is =
    let cut : rest ≡ drop (n * 4) xs = is ∙ ap (λ m. drop (m * 4) xs) (sym count) in
    let long = ap length cut ∙ length-drop (n * 4) xs in
    (record { within = omega arith; same = λ k h. ap (λ l. get_or l k 0) cut ∙ get_or-drop (n * 4) xs k 0 }, omega arith)

one_or_none : (x b : ℕ) → (eqb x b || false) ≡ eqb b x
one_or_none x b =
    elim (cases_eq x b) [
      | inl e ↦ rw e (rw (eq-eqb b b refl) refl)
      | inr ne ↦ rw (ne_eqb x b ne, ne_eqb b x (λ e. ne (sym e))) refl
    ]

-- the sets of one byte
pub bytes_of-one : (xs : List ℕ) (b : ℕ) → length xs ≡ 1 → b < 256 → bytes_of xs b ≡ eqb b (get_or xs 0 0)
unfolding bytes_of
bytes_of-one [] b one byte = absurd (omega (arith, one))
bytes_of-one (x ∷ []) b one byte = rw (lt-ltb b 256 byte) (one_or_none x b)
bytes_of-one (x ∷ y ∷ xs) b one byte = absurd (omega (arith, one))

-- the sets of two, three and four bytes
pub bytes_of-two : (xs : List ℕ) (b : ℕ) → length xs ≡ 2 → b < 256 → bytes_of xs b ≡ (eqb (get_or xs 0 0) b || eqb (get_or xs 1 0) b)
unfolding bytes_of
bytes_of-two [] b two byte = absurd (omega (arith, two))
bytes_of-two (x ∷ []) b two byte = absurd (omega (arith, two))
bytes_of-two (x ∷ y ∷ []) b two byte = rw (lt-ltb b 256 byte) (ap (λ t. eqb x b || t) (or-false (eqb y b)))
bytes_of-two (x ∷ y ∷ z ∷ xs) b two byte = absurd (omega (arith, two))

pub bytes_of-three : (xs : List ℕ) (b : ℕ) → length xs ≡ 3 → b < 256
    → bytes_of xs b ≡ (eqb (get_or xs 0 0) b || (eqb (get_or xs 1 0) b || eqb (get_or xs 2 0) b))
unfolding bytes_of
bytes_of-three [] b three byte = absurd (omega (arith, three))
bytes_of-three (w ∷ []) b three byte = absurd (omega (arith, three))
bytes_of-three (w ∷ x ∷ []) b three byte = absurd (omega (arith, three))
bytes_of-three (w ∷ x ∷ y ∷ []) b three byte = rw (lt-ltb b 256 byte) (ap (λ t. eqb w b || (eqb x b || t)) (or-false (eqb y b)))
bytes_of-three (w ∷ x ∷ y ∷ z ∷ xs) b three byte = absurd (omega (arith, three))

pub bytes_of-four : (xs : List ℕ) (b : ℕ) → length xs ≡ 4 → b < 256
    → bytes_of xs b ≡ (eqb (get_or xs 0 0) b || (eqb (get_or xs 1 0) b || (eqb (get_or xs 2 0) b || eqb (get_or xs 3 0) b)))
unfolding bytes_of
bytes_of-four [] b four byte = absurd (omega (arith, four))
bytes_of-four (v ∷ []) b four byte = absurd (omega (arith, four))
bytes_of-four (v ∷ w ∷ []) b four byte = absurd (omega (arith, four))
bytes_of-four (v ∷ w ∷ x ∷ []) b four byte = absurd (omega (arith, four))
bytes_of-four (v ∷ w ∷ x ∷ y ∷ []) b four byte = rw (lt-ltb b 256 byte)
    (ap (λ t. eqb v b || (eqb w b || (eqb x b || t))) (or-false (eqb y b)))
bytes_of-four (v ∷ w ∷ x ∷ y ∷ z ∷ xs) b four byte = absurd (omega (arith, four))

-- the result of `starts_with` on the text from index i on
pub starts-Decides : (text needle : List ℕ) (i : ℕ) (r : Bool) → r ≡ starts_with eqb (take (length text - i) (drop i text)) needle
    → Decides r (OccursAt needle text i)
starts-Decides text needle i r e =
    let d = bytes_eq-Decides needle (take (length needle) (drop i text)) in
    let at : r ≡ bytes_eq needle (take (length needle) (drop i text)) = e ∙ ap (λ xs. starts_with eqb xs needle) (take_rest text i) in
    (λ t. sym (d.0 (sym at ∙ t)), λ h. at ∙ d.1 (sym h))

-- the needle occurs first at the least index for which `starts_with` returns true
pub occurs_first : (text needle : List ℕ) (i : ℕ) → ((k : ℕ) → k < i → ¬ (OccursAt needle text k)) → i ≤ length text
    → OccursAt needle text i → IsLeastAt (OccursAt needle text) (length text) i
occurs_first text needle i none inside whole = record { within = inside; occurs = whole; before = none }
