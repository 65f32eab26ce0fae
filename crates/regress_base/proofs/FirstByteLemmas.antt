-- The first bytes of the code points of an interval in UTF-8.
use Rattle.std.proofs.Common.{◌≡◌, ◌↔◌, ℕ, ◌+◌, ◌-◌, ◌*◌, ◌/◌, ◌<◌, ◌≤◌, max, min, Bool, true, ◌&&◌, ◌||◌, IsTrue, ◌⊎◌, ⊎_elim, inl, inr, length, slice_get, encode_utf8, Some, unwrap_or, nat_le, ap, sym, ◌∙◌, arith}
use Rattle.std.proofs.lemmas.Bool.{cases_lt, leb-true, le-leb, and_parts, and_from, or_cases, or_left, or_right}
use Rattle.std.proofs.lemmas.Nat.{le-div}
use Rattle.std.proofs.Math.Nat.{div-mul-le_self, le-div_iff_mul-le, mul-div_left}
use Rattle.regress_base.specs.FirstBytes.{IsFirstByteBetween}
use Rattle.regress_base.proofs.Utf8Lemmas.{encode_one, encode_two, encode_three, encode_four}

-- every p consecutive code points have the same first byte
record IsRunOfWidth (base p first last : ℕ) : Type 0 where
  some : 0 < p
  begins : (c : ℕ) → first ≤ c → c ≤ last → slice_get (encode_utf8 c) 0 ≡ Some (base + c / p)

same_some : (x y : ℕ) → Some x ≡ Some y → x ≡ y
same_some x y e = ap (λ o. unwrap_or o 0) e

-- the first code point at or above `first` whose quotient is q
reached : (p first last q : ℕ) → 0 < p → first / p ≤ q → q ≤ last / p → first ≤ last → (c : ℕ) × (first ≤ c) × (c ≤ last) × (c / p ≡ q)
reached p first last q some from to order =
    elim (cases_lt first (q * p)) [
      | inl past ↦ (q * p, omega arith, (le-div_iff_mul-le {k = p} {x = q} {y = last} some).0 to, mul-div_left q some)
      | inr at ↦
          let q-up = le-div q first p some at in
          (first, omega arith, order, omega arith)
    ]

div-le : (p a b : ℕ) → 0 < p → a ≤ b → a / p ≤ b / p
div-le p a b some h =
    let down = div-mul-le_self a p in
    le-div (a / p) b p some (omega arith)

run_begins : (base p first last f l b : ℕ) → IsRunOfWidth base p first last → first ≤ last → slice_get (encode_utf8 first) 0 ≡ Some f
    → slice_get (encode_utf8 last) 0 ≡ Some l → ((f ≤ b) × (b ≤ l)) ↔ IsFirstByteBetween first last b
run_begins base p first last f l b run order ef el =
    let f-is : f ≡ base + first / p = same_some f (base + first / p) (sym ef ∙ run.begins first (omega arith) order) in
    let l-is : l ≡ base + last / p = same_some l (base + last / p) (sym el ∙ run.begins last order (omega arith)) in
    let to : (f ≤ b) × (b ≤ l) → IsFirstByteBetween first last b = λ h.
    let low = h.0 in
    let high = h.1 in
    let r = reached p first last (b - base) run.some (omega arith) (omega arith) order in
    let q-is : r.0 / p ≡ b - base = r.3 in
    let b-is : base + r.0 / p ≡ b = omega arith in
    record { code_point = r.0; from_first = r.1; to_last = r.2; begins = run.begins r.0 r.1 r.2 ∙ ap Some b-is } in
    let from : IsFirstByteBetween first last b → (f ≤ b) × (b ≤ l) = λ h.
    let c = h.code_point in
    let b-is : b ≡ base + c / p = same_some b (base + c / p) (sym h.begins ∙ run.begins c h.from_first h.to_last) in
    let low = div-le p first c run.some h.from_first in
    let high = div-le p c last run.some h.to_last in
    (omega arith, omega arith) in
    (to, from)

-- ---- the four lengths

run_of_one : (first last : ℕ) → last < 0x80 → IsRunOfWidth 0 1 first last
run_of_one first last h = record {
  some = omega arith;
  begins = λ c low high. let e : c ≡ 0 + c / 1 = omega arith in ap (λ bs. slice_get bs 0) (encode_one c (omega arith)) ∙ ap Some e;
}

run_of_two : (first last : ℕ) → 0x80 ≤ first → last < 0x800 → IsRunOfWidth 0xC0 64 first last
run_of_two first last g h = record {
  some = omega arith;
  begins = λ c low high. ap (λ bs. slice_get bs 0) (encode_two c (omega arith) (omega arith));
}

run_of_three : (first last : ℕ) → 0x800 ≤ first → last < 0x1_0000 → IsRunOfWidth 0xE0 4096 first last
run_of_three first last g h = record {
  some = omega arith;
  begins = λ c low high. ap (λ bs. slice_get bs 0) (encode_three c (omega arith) (omega arith));
}

run_of_four : (first last : ℕ) → 0x1_0000 ≤ first → IsRunOfWidth 0xF0 262144 first last
run_of_four first last g = record {
  some = omega arith;
  begins = λ c low high. ap (λ bs. slice_get bs 0) (encode_four c (omega arith));
}

pub width_one : (c : ℕ) → c < 0x80 → length (encode_utf8 c) ≡ 1
width_one c h = ap length (encode_one c h)

pub width_two : (c : ℕ) → 0x80 ≤ c → c < 0x800 → length (encode_utf8 c) ≡ 2
width_two c g h = ap length (encode_two c g h)

pub width_three : (c : ℕ) → 0x800 ≤ c → c < 0x1_0000 → length (encode_utf8 c) ≡ 3
width_three c g h = ap length (encode_three c g h)

pub width_four : (c : ℕ) → 0x1_0000 ≤ c → length (encode_utf8 c) ≡ 4
width_four c h = ap length (encode_four c h)

-- a code point with a short encoding
narrow_two : (c : ℕ) → c < 0x800 → length (encode_utf8 c) ≤ 2
narrow_two c h =
    elim (cases_lt c 0x80) [
      | inl one ↦ omega (arith, width_one c one)
      | inr two ↦ omega (arith, width_two c two h)
    ]

narrow_three : (c : ℕ) → c < 0x1_0000 → length (encode_utf8 c) ≤ 3
narrow_three c h =
    elim (cases_lt c 0x800) [
      | inl two ↦ omega (arith, narrow_two c two)
      | inr three ↦ omega (arith, width_three c three h)
    ]

-- if `first` and `last` have encodings of the same length, the code points between them have exactly the first bytes
-- between theirs
pub first_bytes_run : (first last f l b : ℕ) → first ≤ last → length (encode_utf8 first) ≡ length (encode_utf8 last)
    → slice_get (encode_utf8 first) 0 ≡ Some f → slice_get (encode_utf8 last) 0 ≡ Some l
    → ((f ≤ b) × (b ≤ l)) ↔ IsFirstByteBetween first last b
first_bytes_run first last f l b order width ef el =
    elim (cases_lt last 0x80) [
      | inl one ↦ run_begins 0 1 first last f l b (run_of_one first last one) order ef el
      | inr two ↦ elim (cases_lt last 0x800) [
        | inl under ↦
            elim (cases_lt first 0x80) [
              | inl low ↦ absurd (omega (arith, width, width_one first low, width_two last two under))
              | inr high ↦ run_begins 0xC0 64 first last f l b (run_of_two first last high under) order ef el
            ]
        | inr three ↦ elim (cases_lt last 0x1_0000) [
          | inl under ↦
              elim (cases_lt first 0x800) [
                | inl low ↦ absurd (omega (arith, width, narrow_two first low, width_three last three under))
                | inr high ↦ run_begins 0xE0 4096 first last f l b (run_of_three first last high under) order ef el
              ]
          | inr four ↦
              elim (cases_lt first 0x1_0000) [
                | inl low ↦ absurd (omega (arith, width, narrow_three first low, width_four last four))
                | inr high ↦ run_begins 0xF0 262144 first last f l b (run_of_four first last high) order ef el
              ]
        ]
      ]
    ]

-- the set after the bytes from f to l are added
pub joined : (t old : Bool) (f l b : ℕ) (P : Type 0) → t ≡ ((nat_le f b && nat_le b l) || old) → ((f ≤ b) × (b ≤ l)) ↔ P
    → IsTrue t ↔ (IsTrue old ⊎ P)
joined t old f l b P e run =
    let inside = nat_le f b && nat_le b l in
    let to : IsTrue t → IsTrue old ⊎ P = λ h.
    ⊎_elim (λ (i : inside ≡ true). inr (run.0 (leb-true f b (and_parts _ _ i).0, leb-true b l (and_parts _ _ i).1))) (λ o. inl o)
    (or_cases inside old (sym e ∙ h)) in
    let from : IsTrue old ⊎ P → IsTrue t =
    ⊎_elim (λ (o : IsTrue old). e ∙ or_right inside old o)
    (λ (p : P). e ∙ or_left inside old (and_from _ _ (le-leb f b (run.1 p).0) (le-leb b l (run.1 p).1))) in
    (to, from)

-- first bytes of a part of an interval are first bytes of the interval
within : (a z first last b : ℕ) → first ≤ a → z ≤ last → IsFirstByteBetween a z b → IsFirstByteBetween first last b
within a z first last b low high h =
    record {
      code_point = h.code_point;
      from_first = omega (arith, h.from_first);
      to_last = omega (arith, h.to_last);
      begins = h.begins;
    }

-- The interval is split where the length of the encoding changes, and the parts are added in order.
pub four_widths : (first last z1 a2 z2 a3 z3 a4 b : ℕ) → z1 ≡ min last 0x7F → a2 ≡ max first 0x80 → z2 ≡ min last 0x7FF
    → a3 ≡ max first 0x800 → z3 ≡ min last 0xFFFF → a4 ≡ max first 0x1_0000 →
    (Before One Two Three Four : Type 0) → One ↔ (Before ⊎ IsFirstByteBetween first z1 b) → Two ↔ (One ⊎ IsFirstByteBetween a2 z2 b)
    → Three ↔ (Two ⊎ IsFirstByteBetween a3 z3 b) → Four ↔ (Three ⊎ IsFirstByteBetween a4 last b) →
    Four ↔ (Before ⊎ IsFirstByteBetween first last b)
four_widths first last z1 a2 z2 a3 z3 a4 b e1 f2 e2 f3 e3 f4 Before One Two Three Four h1 h2 h3 h4 =
    let to : Four → Before ⊎ IsFirstByteBetween first last b = λ p.
    ⊎_elim (λ (p3 : Three).
    ⊎_elim (λ (p2 : Two).
    ⊎_elim (λ (p1 : One).
    ⊎_elim (λ (p0 : Before). inl p0)
    (λ (w : IsFirstByteBetween first z1 b). inr (within first z1 first last b (omega arith) (omega arith) w)) (h1.0 p1))
    (λ (w : IsFirstByteBetween a2 z2 b). inr (within a2 z2 first last b (omega arith) (omega arith) w)) (h2.0 p2))
    (λ (w : IsFirstByteBetween a3 z3 b). inr (within a3 z3 first last b (omega arith) (omega arith) w)) (h3.0 p3))
    (λ (w : IsFirstByteBetween a4 last b). inr (within a4 last first last b (omega arith) (omega arith) w)) (h4.0 p) in
    let up1 : One → Four = λ p. h4.1 (inl (h3.1 (inl (h2.1 (inl p))))) in
    let up2 : Two → Four = λ p. h4.1 (inl (h3.1 (inl p))) in
    let up3 : Three → Four = λ p. h4.1 (inl p) in
    let of_member : IsFirstByteBetween first last b → Four = λ h.
    let c = h.code_point in
    let low = h.from_first in
    let high = h.to_last in
    elim (cases_lt c 0x80) [
      | inl one ↦ up1 (h1.1 (inr (record { code_point = c; from_first = low; to_last = omega arith; begins = h.begins })))
      | inr two ↦ elim (cases_lt c 0x800) [
        | inl under ↦ up2 (h2.1 (inr (record { code_point = c; from_first = omega arith; to_last = omega arith; begins = h.begins })))
        | inr three ↦ elim (cases_lt c 0x1_0000) [
          | inl under ↦ up3 (h3.1 (inr (record { code_point = c; from_first = omega arith; to_last = omega arith; begins = h.begins })))
          | inr four ↦ h4.1 (inr (record { code_point = c; from_first = omega arith; to_last = high; begins = h.begins }))
        ]
      ]
    ] in
    (to, ⊎_elim (λ (p : Before). up1 (h1.1 (inl p))) of_member)
