-- Decoding a text by its characters and by the bytes of its UTF-8 gives the same characters, at corresponding
-- positions.
use Rattle.std.proofs.Common.{◌≡◌, ℕ, zero, suc, ◌+◌, ◌-◌, ◌<◌, ◌≤◌, cond, ◌==◌, ⊎_elim, List, length, Option, Some, None, option_map, option_and_then, slice_get, slice_index, IfSome, encode_utf8_all, refl, sym, ap, ◌∙◌, subst, arith, ◌++◌, drop}
use Rattle.std.proofs.lemmas.List.{drop_more}
use Rattle.std.proofs.lemmas.Bool.{cond-true, cond-false, le-leb, eq-eqb, ne_eqb, cases_lt}
use Rattle.std.proofs.lemmas.Option.{slice_get-get_or, slice_get_past}
use Rattle.std.proofs.lemmas.Str.{len_utf8_bounds}
use Rattle.std.specs.Char.{IsScalar, len_utf8, encode_utf8}
use Rattle.std.specs.Option.{option_or}
use Rattle.regress_tree.specs.Reading.{Direction, forwards, backwards, Read, next_character, IsText, of_characters, character_at, read_after, read_before_by, read_before, of_bytes, byte_position}
use Rattle.regress_tree.proofs.lemmas.Characters.{byte_position-zero, byte_position-add-one, drop-byte_position, character_at_from, character_at-byte_position, character_at-end, character_at-inside}

-- a decoded character, with its position as a byte offset
abbrev pub byte_read : List ℕ → Read → Read
byte_read text r = record { character = r.character; position = byte_position text r.position }

-- Both ways decode a character before the end of the text, and neither does at the end.
pub after_within : (text : List ℕ) (k : ℕ) → k < length text →
    (of_characters text).after k ≡ Some (record { character = slice_index text k; position = k + 1 })
after_within text k h = ap (option_map (λ c. record { character = c; position = k + 1 })) (slice_get-get_or text k 0 h)

after_end : (text : List ℕ) (k : ℕ) → length text ≤ k → (of_characters text).after k ≡ None
after_end text k h = ap (option_map (λ c. record { character = c; position = k + 1 })) (slice_get_past text k h)

before_within : (text : List ℕ) (k : ℕ) → k < length text →
    (of_characters text).before (k + 1) ≡ Some (record { character = slice_index text k; position = k })
before_within text k h =
    let back : k + 1 - 1 ≡ k = omega arith in
    cond-false _ _ _ (ne_eqb (k + 1) 0 (omega arith))
    ∙ ap (λ j. option_map (λ c. record { character = c; position = j }) (slice_get text j)) back
    ∙ ap (option_map (λ c. record { character = c; position = k })) (slice_get-get_or text k 0 h)

pub read_after-byte_position : (text : List ℕ) → IsText text → (k : ℕ) → k ≤ length text →
    read_after (encode_utf8_all text) (byte_position text k) ≡ option_map (byte_read text) ((of_characters text).after k)
unfolding read_after
read_after-byte_position text is_text k within =
    let p = byte_position text k in
    ⊎_elim
    (λ (h : k < length text).
    ap (option_map (λ c. record { character = c; position = p + len_utf8 c })) (character_at-byte_position text is_text k h)
    ∙ ap (λ q. Some (record { character = slice_index text k; position = q })) (sym (byte_position-add-one text k h))
    ∙ ap (option_map (byte_read text)) (sym (after_within text k h)))
    (λ (h : length text ≤ k).
    ap (option_map (λ c. record { character = c; position = p + len_utf8 c })) (character_at-end text k h)
    ∙ ap (option_map (byte_read text)) (sym (after_end text k h)))
    (cases_lt k (length text))

or_first : (o p : Option Read) (r : Read) → o ≡ Some r → option_or o p ≡ Some r
or_first o p r e = ap (λ x. option_or x p) e

or_second : (o p : Option Read) (r : Read) → o ≡ None → p ≡ Some r → option_or o p ≡ Some r
or_second o p r none e = ap (λ x. option_or x p) none ∙ e

first_found : (by : ℕ → Option Read) (n : ℕ) (r : Read) → 0 < n → n ≤ 4 → ((m : ℕ) → 0 < m → m < n → by m ≡ None) → by n ≡ Some r →
    option_or (by 1) (option_or (by 2) (option_or (by 3) (by 4))) ≡ Some r
first_found by zero r low high none e = absurd (omega arith)
first_found by (suc zero) r low high none e = or_first _ _ r e
first_found by (suc (suc zero)) r low high none e =
    or_second _ _ r (none 1 (omega arith) (omega arith)) (or_first _ _ r e)
first_found by (suc (suc (suc zero))) r low high none e =
    or_second _ _ r (none 1 (omega arith) (omega arith)) (or_second _ _ r (none 2 (omega arith) (omega arith)) (or_first _ _ r e))
first_found by (suc (suc (suc (suc zero)))) r low high none e =
    or_second _ _ r (none 1 (omega arith) (omega arith))
    (or_second _ _ r (none 2 (omega arith) (omega arith)) (or_second _ _ r (none 3 (omega arith) (omega arith)) e))
first_found by (suc (suc (suc (suc (suc n))))) r low high none e = absurd (omega arith)

before_of_len : (bytes : List ℕ) (n k c : ℕ) → character_at bytes k ≡ Some c → len_utf8 c ≡ n →
    read_before_by bytes n (k + n) ≡ Some (record { character = c; position = k })
before_of_len bytes n k c e is =
    let back : k + n - n ≡ k = omega arith in
    cond-true _ _ _ (le-leb n (k + n) (omega arith))
    ∙ ap (λ j. option_and_then (λ x. cond (len_utf8 x == n) (Some (record { character = x; position = j })) None) (character_at bytes j)) back
    ∙ ap (option_and_then (λ x. cond (len_utf8 x == n) (Some (record { character = x; position = k })) None)) e
    ∙ cond-true _ _ _ (eq-eqb (len_utf8 c) n is)

none_before : (bytes : List ℕ) (n k j : ℕ) → character_at bytes k ≡ None → j ≡ k + n → read_before_by bytes n j ≡ None
none_before bytes n k j e is =
    let back : j - n ≡ k = omega arith in
    cond-true _ _ _ (le-leb n j (omega arith))
    ∙ ap (λ i. option_and_then (λ x. cond (len_utf8 x == n) (Some (record { character = x; position = i })) None) (character_at bytes i)) back
    ∙ ap (option_and_then (λ x. cond (len_utf8 x == n) (Some (record { character = x; position = k })) None)) e

-- A character ends after its UTF-8.
pub read_before-after : (bytes : List ℕ) (k c : ℕ) (rest : List ℕ) → IsScalar c → drop k bytes ≡ encode_utf8 c ++ rest →
    read_before bytes (k + len_utf8 c) ≡ Some (record { character = c; position = k })
unfolding read_before
read_before-after bytes k c rest scalar_value here =
    let bounds = len_utf8_bounds c in
    first_found (λ n. read_before_by bytes n (k + len_utf8 c)) (len_utf8 c) _ (omega arith) (omega arith)
    (λ n low high.
    none_before bytes n (k + (len_utf8 c - n)) (k + len_utf8 c)
    (character_at-inside bytes k c (len_utf8 c - n) rest here (omega arith) (omega arith)) (omega arith))
    (before_of_len bytes (len_utf8 c) k c (character_at_from bytes k c rest scalar_value here) refl)

before_next : (text : List ℕ) → IsText text → (k : ℕ) → k < length text →
    read_before (encode_utf8_all text) (byte_position text (k + 1))
    ≡ Some (record { character = slice_index text k; position = byte_position text k })
before_next text is_text k h =
    ap (read_before (encode_utf8_all text)) (byte_position-add-one text k h)
    ∙ read_before-after (encode_utf8_all text) (byte_position text k) (slice_index text k) (encode_utf8_all (drop (k + 1) text))
    (is_text k 0 h) (drop-byte_position text k ∙ ap encode_utf8_all (drop_more text k 0 h))

pub read_before-byte_position : (text : List ℕ) → IsText text → (k : ℕ) → k ≤ length text →
    read_before (encode_utf8_all text) (byte_position text k) ≡ option_map (byte_read text) ((of_characters text).before k)
unfolding read_before
read_before-byte_position text is_text zero within = ap (read_before (encode_utf8_all text)) (byte_position-zero text)
read_before-byte_position text is_text (suc k) within =
    let next : k + 1 ≡ suc k = omega arith in
    subst
    (λ j. read_before (encode_utf8_all text) (byte_position text j) ≡ option_map (byte_read text) ((of_characters text).before j))
    next
    (before_next text is_text k within ∙ ap (option_map (byte_read text)) (sym (before_within text k within)))

-- The next character over the bytes of a text is the one over its characters, at the corresponding position.
pub next_character-byte_position : (text : List ℕ) → IsText text → (d : Direction) (k : ℕ) → k ≤ length text →
    next_character d (of_bytes (encode_utf8_all text)) (byte_position text k)
    ≡ option_map (byte_read text) (next_character d (of_characters text) k)
next_character-byte_position text is_text forwards k within = read_after-byte_position text is_text k within
next_character-byte_position text is_text backwards k within = read_before-byte_position text is_text k within

-- The position `to` is not against the direction from `from`.
abbrev pub IsOnward : Direction → (from to : ℕ) → Type 0
IsOnward forwards from to = from ≤ to
IsOnward backwards from to = to ≤ from

-- Decoding stays inside the text, and advances in its direction.
pub next_character-within : (text : List ℕ) (d : Direction) (k : ℕ) → k ≤ length text →
    IfSome (next_character d (of_characters text) k) (λ r. (r.position ≤ length text) × IsOnward d k r.position)
next_character-within text forwards k within =
    ⊎_elim
    (λ (h : k < length text).
    subst (λ o. IfSome o (λ r. (r.position ≤ length text) × (k ≤ r.position))) (sym (after_within text k h)) (omega arith, omega arith))
    (λ (h : length text ≤ k). subst (λ o. IfSome o (λ r. (r.position ≤ length text) × (k ≤ r.position))) (sym (after_end text k h)) tt)
    (cases_lt k (length text))
next_character-within text backwards zero within = tt
next_character-within text backwards (suc k) within =
    let next : k + 1 ≡ suc k = omega arith in
    subst (λ j. IfSome ((of_characters text).before j) (λ r. (r.position ≤ length text) × (r.position ≤ j))) next
    (subst (λ o. IfSome o (λ r. (r.position ≤ length text) × (r.position ≤ k + 1))) (sym (before_within text k within))
    (omega arith, omega arith))
