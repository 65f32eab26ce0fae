-- Decoding the character before or after a byte offset.
use Rattle.std.proofs.Common.{◌≡◌, ℕ, zero, suc, ◌+◌, ◌-◌, ◌≤◌, ◌<◌, ◌==◌, Bool, true, false, List, [], ◌∷◌, ◌++◌, length, take, drop, get_or, Option, Some, None, refl, sym, ap, subst, ◌∙◌, arith, append_assoc, if◌then◌else◌, cond, nat_le, lit≤}
use Rattle.std.specs.Char.{IsScalar, len_utf8, encode_utf8}
use Rattle.std.specs.Option.{option_or, option_and_then}
use Rattle.std.specs.Str.{IsUtf8, IsCharBoundary}
use Rattle.std.proofs.lemmas.List.{length-append, length-take-le, take-append-drop, length-drop, drop_more, take_more}
use Rattle.std.proofs.lemmas.Bool.{ltb-true, leb-true, eqb-true}
use Rattle.std.proofs.Common.{◌/◌, ltb}
use Rattle.std.proofs.Math.Seq.{drop-append_seam}
use Rattle.std.proofs.lemmas.Str.{IsUtf8-drop, IsCharBoundary-past_char, encode_ascii, length-encode, len_utf8_ascii, len_utf8_bounds}
use lib.Utf8.{encode}
use Rattle.regress_tree.specs.Reading.{Read, character_at, read_after, read_before, read_before_by}
use Rattle.regress_tree.proofs.lemmas.Characters.{character_at_from, character_at_parts, no_character}
use Rattle.regress_tree.proofs.lemmas.Readings.{read_before-after}

pub len_positive : (c : ℕ) → IsScalar c → 1 ≤ len_utf8 c
len_positive c is = (len_utf8_bounds c).0

lead : (x y z : Bool) (c : ℕ) (xs ys zs rest : List ℕ) (p q r : ℕ) → (x ≡ true → c < 128) → 192 ≤ p → 192 ≤ q → 192 ≤ r →
    128 ≤ get_or (cond x (c ∷ []) (cond y (p ∷ xs) (cond z (q ∷ ys) (r ∷ zs))) ++ rest) 0 0 →
    192 ≤ get_or (cond x (c ∷ []) (cond y (p ∷ xs) (cond z (q ∷ ys) (r ∷ zs))) ++ rest) 0 0
lead true y z c xs ys zs rest p q r low le-p le-q le-r high = absurd (omega (arith, low refl, high))
lead false true z c xs ys zs rest p q r low le-p le-q le-r high = le-p
lead false false true c xs ys zs rest p q r low le-p le-q le-r high = le-q
lead false false false c xs ys zs rest p q r low le-p le-q le-r high = le-r

-- the first byte of a character is no continuation byte
pub first_leads : (c : ℕ) (rest : List ℕ) → 128 ≤ get_or (encode c ++ rest) 0 0 → 192 ≤ get_or (encode c ++ rest) 0 0
unfolding encode
first_leads c rest high =
    lead (ltb c 128) (ltb c 2048) (ltb c 65536) c _ _ _ rest (192 + c / 64) (224 + c / 4096) (240 + c / 262144) (ltb-true c 128)
    (omega arith) (omega arith) (omega arith) high

pub first_of_drop : (bytes : List ℕ) (k : ℕ) → get_or (drop k bytes) 0 0 ≡ get_or bytes k 0
first_of_drop [] zero = refl
first_of_drop [] (suc k) = refl
first_of_drop (b ∷ bytes) zero = refl
first_of_drop (b ∷ bytes) (suc k) = first_of_drop bytes k

length_drop : (bytes : List ℕ) (k : ℕ) → 1 ≤ length (drop k bytes) → k ≤ length bytes
length_drop bytes k some = omega (arith, some, length-drop k bytes)

pub boundary_at : (bytes : List ℕ) (k c : ℕ) (rest : List ℕ) → IsScalar c → drop k bytes ≡ encode_utf8 c ++ rest → IsCharBoundary bytes k
boundary_at bytes k c rest is here =
    let some : 1 ≤ length (drop k bytes) =
    omega (arith, ap length here, length-append (encode_utf8 c) rest, length-encode c, len_positive c is) in
    let first : get_or bytes k 0 ≡ get_or (encode c ++ rest) 0 0 = sym (first_of_drop bytes k) ∙ ap (λ bs. get_or bs 0 0) here in (
      length_drop bytes k some,
      λ lt high. subst (λ b. 192 ≤ b) (sym first) (first_leads c rest (subst (λ b. 128 ≤ b) first high)),
    )

pub after_none : (bytes : List ℕ) (k : ℕ) → (IsCharBoundary bytes k → ⊥) → character_at bytes k ≡ None
after_none bytes k off =
    no_character (character_at bytes k) (λ c e.
    let parts = character_at_parts bytes k c e in
    off (boundary_at bytes k c parts.1.0 parts.0 parts.1.1))

pub read_after_none : (bytes : List ℕ) (k : ℕ) → character_at bytes k ≡ None → read_after bytes k ≡ None
unfolding read_after
read_after_none bytes k none = rw none refl

pub read_after_some : (bytes : List ℕ) (k c : ℕ) → character_at bytes k ≡ Some c → read_after bytes k ≡ Some (record { character = c; position = k + len_utf8 c })
unfolding read_after
read_after_some bytes k c some = rw some refl

-- no character begins at the end of the text
pub end_none : (bytes : List ℕ) (k : ℕ) → length (drop k bytes) ≡ 0 → character_at bytes k ≡ None
end_none bytes k none =
    no_character (character_at bytes k) (λ c e.
    let parts = character_at_parts bytes k c e in
    omega (
      arith,
      none,
      ap length parts.1.1,
      length-append (encode_utf8 c) parts.1.0,
      length-encode c,
      len_positive c parts.0,
    ))

by_test : (t : Bool) (x : Read) → (t ≡ true → ⊥) → (if t then Some x else None) ≡ None
by_test true x h = absurd (h refl)
by_test false x h = refl

by_none : (b : Bool) (o : Option ℕ) (n k : ℕ) → ((c : ℕ) → b ≡ true → o ≡ Some c → (len_utf8 c == n) ≡ true → ⊥) →
    (if b then option_and_then {U = Read} (λ c. if len_utf8 c == n then Some (record { character = c; position = k - n }) else None) o else None) ≡ None
by_none false o n k h = refl
by_none true None n k h = refl
by_none true (Some c) n k h = by_test (len_utf8 c == n) (record { character = c; position = k - n }) (λ e. h c refl refl e)

all_none : (a b c d : Option Read) → a ≡ None → b ≡ None → c ≡ None → d ≡ None → option_or a (option_or b (option_or c d)) ≡ None
all_none a b c d none-a none-b none-c none-d =
    ap (λ x. option_or x (option_or b (option_or c d))) none-a ∙ ap (λ x. option_or x (option_or c d)) none-b ∙ ap (λ x. option_or x d) none-c ∙ none-d

-- no character ends at the start of the text, or off a character boundary
pub before_none : (bytes : List ℕ) (k : ℕ) → IsUtf8 bytes → (1 ≤ k → IsCharBoundary bytes k → ⊥) → read_before bytes k ≡ None
unfolding read_before
before_none bytes k utf8 off =
    let none : (n : ℕ) → read_before_by bytes n k ≡ None =
    λ n. by_none (nat_le n k) (character_at bytes (k - n)) n k
    (λ c within e len.
    let parts = character_at_parts bytes (k - n) c e in
    let start = boundary_at bytes (k - n) c parts.1.0 parts.0 parts.1.1 in
    let past = IsCharBoundary-past_char bytes parts.1.0 (k - n) c start.0 (IsUtf8-drop bytes (k - n) utf8 start) parts.1.1 in
    ends n c (len_positive c parts.0) within len past) in
    all_none _ _ _ _ (none 1) (none 2) (none 3) (none 4)
  where
    ends : (n c : ℕ) → 1 ≤ len_utf8 c → nat_le n k ≡ true → (len_utf8 c == n) ≡ true → IsCharBoundary bytes (k - n + len_utf8 c) → ⊥
    ends n c some within len past =
        let le : n ≤ k = leb-true n k within in
        let same : len_utf8 c ≡ n = eqb-true (len_utf8 c) n len in
        let here : k - n + len_utf8 c ≡ k = omega (arith, le, same) in
        off (omega (arith, le, same, some)) (subst (λ i. IsCharBoundary bytes i) here past)

-- the character that ends at an offset
pub before_some : (bytes : List ℕ) (k c : ℕ) (xs : List ℕ) → IsScalar c → k ≤ length bytes → take k bytes ≡ xs ++ encode_utf8 c →
    read_before bytes k ≡ Some (record { character = c; position = k - len_utf8 c })
before_some bytes k c xs is le split =
    let len : length xs + len_utf8 c ≡ k =
    sym (sym (length-take-le k bytes le) ∙ ap length split ∙ length-append xs (encode_utf8 c) ∙ ap (λ n. length xs + n) (length-encode c)) in
    let whole : bytes ≡ xs ++ (encode_utf8 c ++ drop k bytes) =
    sym (take-append-drop k bytes) ∙ ap (λ ys. ys ++ drop k bytes) split ∙ append_assoc xs (encode_utf8 c) (drop k bytes) in
    let here : drop (length xs) bytes ≡ encode_utf8 c ++ drop k bytes =
    ap (drop (length xs)) whole ∙ drop-append_seam xs (encode_utf8 c ++ drop k bytes) in
    ap (read_before bytes) (sym len) ∙ read_before-after bytes (length xs) c (drop k bytes) is here
    ∙ ap (λ i. Some (record { character = c; position = i })) (omega (arith, len))

ascii_scalar : (b : ℕ) → b < 128 → IsScalar b
ascii_scalar b lt = grind arith

-- an ASCII byte is a character of its own
pub ascii_after : (bytes : List ℕ) (k b : ℕ) → b < 128 → k < length bytes → get_or bytes k 0 ≡ b →
    read_after bytes k ≡ Some (record { character = b; position = k + 1 })
ascii_after bytes k b lt within is =
    let here : drop k bytes ≡ encode_utf8 b ++ drop (k + 1) bytes =
    drop_more bytes k 0 within ∙ ap (λ x. x ∷ drop (k + 1) bytes) is ∙ ap (λ xs. xs ++ drop (k + 1) bytes) (sym (encode_ascii b lt)) in
    read_after_some bytes k b (character_at_from bytes k b (drop (k + 1) bytes) (ascii_scalar b lt) here)
    ∙ ap (λ n. Some (record { character = b; position = k + n })) (len_utf8_ascii b lt)

pub ascii_before : (bytes : List ℕ) (k b : ℕ) → b < 128 → k < length bytes → get_or bytes k 0 ≡ b →
    read_before bytes (k + 1) ≡ Some (record { character = b; position = k })
ascii_before bytes k b lt within is =
    let split : take (k + 1) bytes ≡ take k bytes ++ encode_utf8 b =
    take_more bytes k 0 within ∙ ap (λ x. take k bytes ++ x ∷ []) is ∙ ap (λ xs. take k bytes ++ xs) (sym (encode_ascii b lt)) in
    before_some bytes (k + 1) b (take k bytes) (ascii_scalar b lt) (omega (arith, within)) split
    ∙ ap (λ i. Some (record { character = b; position = i })) (omega (arith, len_utf8_ascii b lt))

pub before_start : (bytes : List ℕ) → read_before bytes 0 ≡ None
unfolding read_before
before_start bytes =
    let none : (n : ℕ) → 1 ≤ n → read_before_by bytes n 0 ≡ None =
    λ n some. by_none (nat_le n 0) (character_at bytes (0 - n)) n 0 (λ c within e len. omega (arith, some, leb-true n 0 within)) in
    all_none _ _ _ _ (none 1 (lit≤ tt)) (none 2 (lit≤ tt)) (none 3 (lit≤ tt)) (none 4 (lit≤ tt))
