-- Bits in words.
use Rattle.std.proofs.Common.{◌≡◌, ◌≢◌, ℕ, ◌+◌, ◌*◌, ◌/◌, ◌%◌, ◌<◌, ◌≤◌, take, inl, inr, ◌==◌, Bool, true, false, List, [], ◌∷◌, ◌++◌, length, map, get_or, set, if◌then◌else◌, sym, ap, ap₂, ◌∙◌, arith, get_or-set_other}
use Rattle.std.proofs.Math.ListN.{get_or-append}
use Rattle.std.specs.Int.{bit_at}
use Rattle.std.specs.List.{range_with_len}
use Rattle.std.proofs.lemmas.Bool.{cases_eq}
use Rattle.std.proofs.lemmas.List.{same_lists, get_or-set_same, get_or-take, length-take-le}
use Rattle.std.proofs.lemmas.List.FromFn.{length-map-range_with_len, get_or-map-range_with_len, map-range_with_len_more}
use Rattle.regress_tables.specs.Bits.{bit_of, bits_of}
use Rattle.regress_tables.specs.declared.bits.Bits.{Bits}

-- the first bits of some words
abbrev pub first_bits : List ℕ → ℕ → List Bool
first_bits words len = map (bit_of words) (range_with_len 0 len)

pub length-first_bits : (words : List ℕ) (len : ℕ) → length (first_bits words len) ≡ len
length-first_bits words len = length-map-range_with_len (bit_of words) 0 len

pub bits-len : (b : Bits) → length (bits_of b) ≡ b.len
unfolding bits_of
bits-len b = length-first_bits b.words.items b.len

pub get_or-first_bits : (words : List ℕ) (len k : ℕ) (d : Bool) → k < len → get_or (first_bits words len) k d ≡ bit_of words k
get_or-first_bits words len k d lt = get_or-map-range_with_len (bit_of words) 0 len k k d lt (omega arith)

pub same-first_bits : (words words' : List ℕ) (len : ℕ) → ((k : ℕ) → k < len → bit_of words' k ≡ bit_of words k) → first_bits words' len ≡ first_bits words len
same-first_bits words words' len same =
    same_lists (first_bits words' len) (first_bits words len) (length-first_bits words' len ∙ sym (length-first_bits words len))
    (λ k d lt. let lt' : k < len = omega (arith, lt, length-first_bits words' len) in
    get_or-first_bits words' len k d lt' ∙ same k lt' ∙ sym (get_or-first_bits words len k d lt'))

truth : (b : Bool) (n : ℕ) → n ≡ (if b then 1 else 0) → (n == 1) ≡ b
truth true n is = grind arith
truth false n is = grind arith

-- a bit more
pub push_bit : (words : List ℕ) (word len : ℕ) (bit : Bool) → len < 64 * length words → bit_at word (len % 64) ≡ (if bit then 1 else 0) →
    ((i : ℕ) → i < 64 → i ≢ len % 64 → bit_at word i ≡ bit_at (get_or words (len / 64) 0) i) →
    first_bits (set words (len / 64) word) (len + 1) ≡ first_bits words len ++ bit ∷ []
push_bit words word len bit within here other =
    map-range_with_len_more (bit_of words') 0 len len (omega arith)
    ∙ ap₂ (λ xs b. xs ++ b ∷ []) (same-first_bits words words' len before) last
  where
    words' : List ℕ
    words' = set words (len / 64) word

    last : bit_of words' len ≡ bit
    last = ap (λ x. bit_at x (len % 64) == 1) (get_or-set_same words (len / 64) word 0 (omega arith)) ∙ truth bit (bit_at word (len % 64)) here

    before : (k : ℕ) → k < len → bit_of words' k ≡ bit_of words k
    before k lt =
        elim (cases_eq (k / 64) (len / 64)) [
          | inl same ↦
              ap (λ x. bit_at (get_or words' x 0) (k % 64) == 1) same
              ∙ ap (λ x. bit_at x (k % 64) == 1) (get_or-set_same words (len / 64) word 0 (omega arith))
              ∙ ap (λ x. x == 1) (other (k % 64) (omega arith) (omega (arith, lt, same)))
              ∙ ap (λ x. bit_at (get_or words x 0) (k % 64) == 1) (sym same)
          | inr apart ↦ ap (λ x. bit_at x (k % 64) == 1) (get_or-set_other words (len / 64) (k / 64) word 0 apart)
        ]

-- fewer bits
pub fewer_bits : (words : List ℕ) (len count : ℕ) → count ≤ len → first_bits words count ≡ take count (first_bits words len)
fewer_bits words len count le =
    let long = length-take-le count (first_bits words len) (omega (arith, le, length-first_bits words len)) in
    same_lists (first_bits words count) (take count (first_bits words len)) (length-first_bits words count ∙ sym long)
    (λ k d lt. let lt' : k < count = omega (arith, lt, length-first_bits words count) in
    get_or-first_bits words count k d lt'
    ∙ sym (get_or-take count (first_bits words len) k d lt' ∙ get_or-first_bits words len k d (omega (arith, lt', le))))

-- one more word
pub same_bits : (words : List ℕ) (word len : ℕ) → len ≤ 64 * length words → first_bits (words ++ word ∷ []) len ≡ first_bits words len
same_bits words word len le =
    same-first_bits words (words ++ word ∷ []) len
    (λ k lt. ap (λ x. bit_at x (k % 64) == 1) (get_or-append words (word ∷ []) 0 (k / 64) (omega (arith, lt, le))))
