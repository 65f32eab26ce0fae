-- The bytes of a code point, and the code point of a byte sequence.
use Rattle.std.proofs.Common.{◌≡◌, ℕ, ◌+◌, ◌*◌, ◌/◌, ◌%◌, ◌^◌, ◌<◌, ◌≤◌, List, [], ◌∷◌, length, get_or, slice_get, Some, inl, inr, ap, sym, ◌∙◌, bit_or, lt-ltb, le-ltb, arith}
use Rattle.std.proofs.lemmas.Bool.{cond-true, cond-false, cases_lt}
use Rattle.std.proofs.lemmas.Nat.{or_shifted}
use Rattle.std.specs.Char.{encode_utf8}
use Rattle.regress_base.specs.Utf8.{value_of_two, value_of_three, value_of_four}

pub encode_one : (c : ℕ) → c < 0x80 → encode_utf8 c ≡ c ∷ []
unfolding encode_utf8
encode_one c low = cond-true _ _ _ (lt-ltb c 0x80 low)

pub encode_two : (c : ℕ) → 0x80 ≤ c → c < 0x800 → encode_utf8 c ≡ (0xC0 + c / 64) ∷ (0x80 + c % 64) ∷ []
unfolding encode_utf8
encode_two c low high = cond-false _ _ _ (le-ltb c 0x80 low) ∙ cond-true _ _ _ (lt-ltb c 0x800 high)

pub encode_three : (c : ℕ) → 0x800 ≤ c → c < 0x1_0000 →
    encode_utf8 c ≡ (0xE0 + c / 4096) ∷ (0x80 + (c / 64) % 64) ∷ (0x80 + c % 64) ∷ []
unfolding encode_utf8
encode_three c low high =
    cond-false _ _ _ (le-ltb c 0x80 (omega arith)) ∙ cond-false _ _ _ (le-ltb c 0x800 low) ∙ cond-true _ _ _ (lt-ltb c 0x1_0000 high)

pub encode_four : (c : ℕ) → 0x1_0000 ≤ c →
    encode_utf8 c ≡ (0xF0 + c / 262144) ∷ (0x80 + (c / 4096) % 64) ∷ (0x80 + (c / 64) % 64) ∷ (0x80 + c % 64) ∷ []
unfolding encode_utf8
encode_four c low =
    cond-false _ _ _ (le-ltb c 0x80 (omega arith)) ∙ cond-false _ _ _ (le-ltb c 0x800 (omega arith))
    ∙ cond-false _ _ _ (le-ltb c 0x1_0000 low)

-- the first byte of each length, by the bits that the code sets
pub first_of_two : (c : ℕ) → 0x80 ≤ c → c < 0x800 → slice_get (encode_utf8 c) 0 ≡ Some (bit_or 0xC0 (c / 64))
first_of_two c low high =
    ap (λ l. slice_get l 0) (encode_two c low high) ∙ ap Some (sym (or_shifted 3 6 (c / 64) (omega arith)))

pub first_of_three : (c : ℕ) → 0x800 ≤ c → c < 0x1_0000 → slice_get (encode_utf8 c) 0 ≡ Some (bit_or 0xE0 (c / 4096))
first_of_three c low high =
    ap (λ l. slice_get l 0) (encode_three c low high) ∙ ap Some (sym (or_shifted 7 5 (c / 4096) (omega arith)))

pub first_of_four : (c : ℕ) → 0x1_0000 ≤ c → c ≤ 0x10_FFFF → slice_get (encode_utf8 c) 0 ≡ Some (bit_or 0xF0 (c / 262144))
first_of_four c low high =
    ap (λ l. slice_get l 0) (encode_four c low) ∙ ap Some (sym (or_shifted 15 4 (c / 262144) (omega arith)))

-- equal lists have equal bytes
byte : (k : ℕ) (xs ys : List ℕ) → xs ≡ ys → get_or xs k 0 ≡ get_or ys k 0
byte k xs ys e = ap (λ l. get_or l k 0) e

pub decode_two : (c b0 b1 : ℕ) → encode_utf8 c ≡ b0 ∷ b1 ∷ [] → value_of_two b0 b1 ≡ c
decode_two c b0 b1 e =
    elim (cases_lt c 0x80) [
      | inl one ↦ absurd (omega (arith, ap length (sym (encode_one c one) ∙ e)))
      | inr from_two ↦ elim (cases_lt c 0x800) [
        | inl two ↦ (let f = sym (encode_two c from_two two) ∙ e in omega (arith, byte 0 _ _ f, byte 1 _ _ f))
        | inr from_three ↦ elim (cases_lt c 0x1_0000) [
          | inl three ↦ absurd (omega (arith, ap length (sym (encode_three c from_three three) ∙ e)))
          | inr four ↦ absurd (omega (arith, ap length (sym (encode_four c four) ∙ e)))
        ]
      ]
    ]

pub decode_three : (c b0 b1 b2 : ℕ) → encode_utf8 c ≡ b0 ∷ b1 ∷ b2 ∷ [] → value_of_three b0 b1 b2 ≡ c
decode_three c b0 b1 b2 e =
    elim (cases_lt c 0x80) [
      | inl one ↦ absurd (omega (arith, ap length (sym (encode_one c one) ∙ e)))
      | inr from_two ↦ elim (cases_lt c 0x800) [
        | inl two ↦ absurd (omega (arith, ap length (sym (encode_two c from_two two) ∙ e)))
        | inr from_three ↦ elim (cases_lt c 0x1_0000) [
          | inl three ↦ (let f = sym (encode_three c from_three three) ∙ e in omega (arith, byte 0 _ _ f, byte 1 _ _ f, byte 2 _ _ f))
          | inr four ↦ absurd (omega (arith, ap length (sym (encode_four c four) ∙ e)))
        ]
      ]
    ]

pub decode_four : (c b0 b1 b2 b3 : ℕ) → b0 < 0xF8 → encode_utf8 c ≡ b0 ∷ b1 ∷ b2 ∷ b3 ∷ [] → value_of_four b0 b1 b2 b3 ≡ c
decode_four c b0 b1 b2 b3 lead e =
    elim (cases_lt c 0x80) [
      | inl one ↦ absurd (omega (arith, ap length (sym (encode_one c one) ∙ e)))
      | inr from_two ↦ elim (cases_lt c 0x800) [
        | inl two ↦ absurd (omega (arith, ap length (sym (encode_two c from_two two) ∙ e)))
        | inr from_three ↦ elim (cases_lt c 0x1_0000) [
          | inl three ↦ absurd (omega (arith, ap length (sym (encode_three c from_three three) ∙ e)))
          | inr four ↦ (let f = sym (encode_four c four) ∙ e in omega (arith, byte 0 _ _ f, byte 1 _ _ f, byte 2 _ _ f, byte 3 _ _ f))
        ]
      ]
    ]

-- six more low bits, without overflow
pub shift_or : (a b : ℕ) → a < 2 ^ 24 → b < 64 → bit_or (a * 64 % 2 ^ 32) b ≡ a * 64 + b
shift_or a b small six =
    let fits : a * 64 % 2 ^ 32 ≡ a * 64 = omega arith in
    ap (λ n. bit_or n b) fits ∙ or_shifted a 6 b six
