-- Positions of a text, and the indices of the code units there.
use Rattle.std.proofs.Common.{◌≡◌, ◌∙◌, ℕ, zero, suc, ◌+◌, ◌<◌, ◌≤◌, ◌==◌, List, [], ◌∷◌, ◌++◌, length, take, drop, slice_get, Some, None, ◌⊎◌, inl, inr, ⊎_elim, refl, sym, ap, arith}
use Rattle.std.proofs.Math.Seq.{drop-append-add}
use Rattle.std.proofs.lemmas.Bool.{cases_lt, eq-eqb, ne_eqb}
use Rattle.std.proofs.lemmas.List.{length-append}
use Rattle.std.specs.Char.Escape.{encode_utf16}
use Rattle.regress_ecma.specs.CodeUnits.{code_units, unit_position}
use Rattle.regress_ecma.proofs.BackReferences.{at_end, inside}
use Rattle.regress_ecma.proofs.CodeUnits.{lead, trail, one_unit, two_units}

-- ---- what is at a position

units_from : (text : List ℕ) (k : ℕ) → drop (unit_position text k) (code_units text) ≡ code_units (drop k text)
units_from [] zero = refl
units_from [] (suc k) = refl
units_from (c ∷ text) zero = refl
units_from (c ∷ text) (suc k) =
    ap (λ (n : ℕ). drop n (code_units (c ∷ text))) (length-append (encode_utf16 c) (code_units (take k text)))
    ∙ drop-append-add (encode_utf16 c) (code_units text) (unit_position text k)
    ∙ units_from text k

next_position : (text : List ℕ) (k c : ℕ) (rest : List ℕ) → drop k text ≡ c ∷ rest →
    unit_position text (suc k) ≡ unit_position text k + length (encode_utf16 c)
next_position [] zero c rest e = absurd (cc)
next_position [] (suc k) c rest e = absurd (cc)
next_position (x ∷ text) zero c rest e =
    let same : x ≡ c = cc in
    omega (arith, length-append (encode_utf16 x) [], ap (λ (d : ℕ). length (encode_utf16 d)) same)
next_position (x ∷ text) (suc k) c rest e =
    omega (
      arith,
      next_position text k c rest e,
      length-append (encode_utf16 x) (code_units (take (suc k) text)),
      length-append (encode_utf16 x) (code_units (take k text)),
    )

-- a character of one code unit at the position
pub record IsOne (text : List ℕ) (k c : ℕ) : Type 0 where
  pub below : c < 0x1_0000
  pub character : slice_get text k ≡ Some c
  pub unit : slice_get (code_units text) (unit_position text k) ≡ Some c
  pub next : unit_position text (suc k) ≡ unit_position text k + 1

-- a character of two code units
pub record IsTwo (text : List ℕ) (k c : ℕ) : Type 0 where
  pub above : 0x1_0000 ≤ c
  pub character : slice_get text k ≡ Some c
  pub first : slice_get (code_units text) (unit_position text k) ≡ Some (lead c)
  pub second : slice_get (code_units text) (unit_position text k + 1) ≡ Some (trail c)
  pub next : unit_position text (suc k) ≡ unit_position text k + 2

-- the end of the text
pub record IsEnd (text : List ℕ) (k : ℕ) : Type 0 where
  pub character : slice_get text k ≡ None
  pub unit : slice_get (code_units text) (unit_position text k) ≡ None

abbrev pub IsAt : List ℕ → ℕ → Type 0
IsAt text k = IsEnd text k ⊎ ((c : ℕ) × (IsOne text k c ⊎ IsTwo text k c))

of_rest : (text : List ℕ) (k : ℕ) (rest : List ℕ) → drop k text ≡ rest → drop (unit_position text k) (code_units text) ≡ code_units rest → IsAt text k
of_rest text k [] e units = inl (record { character = at_end text k e; unit = at_end (code_units text) (unit_position text k) units })
of_rest text k (c ∷ rest) e units =
    inr (
      c,
      elim (cases_lt c 0x1_0000) [
        | inl below ↦
            inl (record {
              below = below;
              character = (inside text k c rest e).0;
              unit = (inside (code_units text) (unit_position text k) c (code_units rest)
                  (units ∙ ap (λ (us : List ℕ). us ++ code_units rest) (one_unit c below))).0;
              next = next_position text k c rest e ∙ ap (λ (us : List ℕ). unit_position text k + length us) (one_unit c below);
            })
        | inr above ↦
            let both = units ∙ ap (λ (us : List ℕ). us ++ code_units rest) (two_units c above) in
            let first = inside (code_units text) (unit_position text k) (lead c) (trail c ∷ code_units rest) both in
            let more : suc (unit_position text k) ≡ unit_position text k + 1 = omega arith in
            inr (record {
              above = above;
              character = (inside text k c rest e).0;
              first = first.0;
              second = sym (ap (slice_get (code_units text)) more)
                  ∙ (inside (code_units text) (suc (unit_position text k)) (trail c) (code_units rest) first.1).0;
              next = next_position text k c rest e ∙ ap (λ (us : List ℕ). unit_position text k + length us) (two_units c above);
            })
      ],
    )

pub what_is_at : (text : List ℕ) (k : ℕ) → IsAt text k
what_is_at text k = of_rest text k (drop k text) refl (units_from text k)

-- ---- the order of positions

some_units : (c : ℕ) → 1 ≤ length (encode_utf16 c)
some_units c = elim (cases_lt c 0x1_0000) [
  | inl below ↦ omega (arith, ap length (one_unit c below))
  | inr above ↦ omega (arith, ap length (two_units c above))
]

pub unit_position-lt : (text : List ℕ) (j k : ℕ) → j < k → k ≤ length text → unit_position text j < unit_position text k
unit_position-lt [] j k less within = absurd (omega arith)
unit_position-lt (c ∷ text) zero zero less within = absurd (omega arith)
unit_position-lt (c ∷ text) zero (suc k) less within =
    omega (arith, some_units c, length-append (encode_utf16 c) (code_units (take k text)))
unit_position-lt (c ∷ text) (suc j) zero less within = absurd (omega arith)
unit_position-lt (c ∷ text) (suc j) (suc k) less within =
    omega (
      arith,
      unit_position-lt text j k (omega arith) (omega arith),
      length-append (encode_utf16 c) (code_units (take j text)),
      length-append (encode_utf16 c) (code_units (take k text)),
    )

pub unit_position-le : (text : List ℕ) (j k : ℕ) → j ≤ k → k ≤ length text → unit_position text j ≤ unit_position text k
unit_position-le text j k order within =
    ⊎_elim (λ (less : j < k). omega (arith, unit_position-lt text j k less within))
    (λ (same : k ≤ j). let is : j ≡ k = omega arith in omega (arith, ap (unit_position text) is)) (cases_lt j k)

pub unit_position-length : (text : List ℕ) → unit_position text (length text) ≡ length (code_units text)
unit_position-length [] = refl
unit_position-length (c ∷ text) =
    omega (
      arith,
      unit_position-length text,
      length-append (encode_utf16 c) (code_units (take (length text) text)),
      length-append (encode_utf16 c) (code_units text),
    )

pub unit_position-within : (text : List ℕ) (k : ℕ) → k ≤ length text → unit_position text k ≤ length (code_units text)
unit_position-within text k within = omega (arith, unit_position-le text k (length text) within (omega arith), unit_position-length text)

pub unit_position-eq : (text : List ℕ) (j k : ℕ) → j ≤ length text → k ≤ length text → (unit_position text j == unit_position text k) ≡ (j == k)
unit_position-eq text j k in_j in_k =
    ⊎_elim
    (λ (less : j < k). let lt = unit_position-lt text j k less in_k in ne_eqb _ _ (omega (arith, lt)) ∙ sym (ne_eqb j k (omega arith)))
    (λ (le : k ≤ j).
    ⊎_elim
    (λ (less : k < j). let lt = unit_position-lt text k j less in_j in ne_eqb _ _ (omega (arith, lt)) ∙ sym (ne_eqb j k (omega arith)))
    (λ (ge : j ≤ k). let is : j ≡ k = omega arith in eq-eqb _ _ (ap (unit_position text) is) ∙ sym (eq-eqb j k is)) (cases_lt k j))
    (cases_lt j k)

-- There are at least as many code units as characters.
pub units-longer : (text : List ℕ) → length text ≤ length (code_units text)
units-longer [] = omega arith
units-longer (c ∷ text) = omega (arith, units-longer text, some_units c, length-append (encode_utf16 c) (code_units text))
