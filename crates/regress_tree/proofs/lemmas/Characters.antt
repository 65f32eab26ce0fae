-- The byte offsets of the characters of a text in its UTF-8: no character begins at any other offset.
use Rattle.std.proofs.Common.{◌≡◌, ℕ, zero, suc, ◌+◌, ◌-◌, ◌/◌, ◌%◌, ◌<◌, ◌≤◌, Bool, true, cond, ◌&&◌, nat_eq, ⊎_elim, List, [], ◌∷◌, ◌++◌, length, take, drop, Option, Some, None, slice_index, All, chars, encode_utf8_all, refl, sym, ap, ◌∙◌, subst, arith, append-nil}
use Rattle.std.proofs.lemmas.List.{length-append, length-take-le, length-drop, take-append-drop, drop_at, take-take, take_more, drop_more, get_or-drop, get_or_append_left, drop_all}
use Rattle.std.proofs.lemmas.List.Elements.{All-nil, All-cons}
use Rattle.std.proofs.lemmas.Bool.{cond-true, cond-false, and_parts, and_from, cases_lt, lt-ltb, le-ltb}
use Rattle.std.proofs.lemmas.Bool.Decides.{Decides-eqb}
use Rattle.std.proofs.lemmas.Option.{cond_some}
use Rattle.std.proofs.lemmas.Slice.Eq.{starts_is}
use Rattle.std.proofs.lemmas.Str.{length-encode, len_utf8_bounds, encode_ascii, IsUtf8-encode, IsCharBoundary-start, chars-append, chars-encodes, encodes-append, length-le-encodes}
use Rattle.std.specs.Char.{IsScalar, len_utf8, encode_utf8}
use Rattle.std.specs.List.{starts_with}
use lib.Utf8.{scalar}
use Rattle.regress_tree.specs.Reading.{IsText, character_at, byte_position}

-- ---- positions

-- The bytes from a byte offset on are the UTF-8 of the characters from its position on.
pub drop-byte_position : (text : List ℕ) (k : ℕ) → drop (byte_position text k) (encode_utf8_all text) ≡ encode_utf8_all (drop k text)
unfolding byte_position
drop-byte_position text k =
    let split : encode_utf8_all text ≡ encode_utf8_all (take k text) ++ encode_utf8_all (drop k text) =
    ap encode_utf8_all (sym (take-append-drop k text)) ∙ encodes-append (take k text) (drop k text) in
    ap (drop (length (encode_utf8_all (take k text)))) split
    ∙ drop_at (encode_utf8_all (take k text)) (encode_utf8_all (drop k text)) (length (encode_utf8_all (take k text))) refl

-- Between two positions there is at least one byte for each character.
pub byte_position-add-le : (text : List ℕ) (j k : ℕ) → j ≤ k → k ≤ length text → byte_position text j + (k - j) ≤ byte_position text k
unfolding byte_position
byte_position-add-le text j k h within =
    let front = take j text in
    let middle = drop j (take k text) in
    let split : take k text ≡ front ++ middle = sym (take-append-drop j (take k text)) ∙ ap (λ xs. xs ++ middle) (take-take j k text h) in
    let bytes : length (encode_utf8_all (take k text)) ≡ length (encode_utf8_all front) + length (encode_utf8_all middle) =
    ap (λ xs. length (encode_utf8_all xs)) split ∙ ap length (encodes-append front middle)
    ∙ length-append (encode_utf8_all front) (encode_utf8_all middle) in
    omega (arith, bytes, length-le-encodes middle, length-drop j (take k text), length-take-le k text within)

pub byte_position-le : (text : List ℕ) (j k : ℕ) → j ≤ k → k ≤ length text → byte_position text j ≤ byte_position text k
byte_position-le text j k h within = omega (arith, byte_position-add-le text j k h within)

pub byte_position-lt : (text : List ℕ) (j k : ℕ) → j < k → k ≤ length text → byte_position text j < byte_position text k
byte_position-lt text j k h within = omega (arith, byte_position-add-le text j k (omega arith) within)

-- Different positions have different byte offsets.
pub byte_position_same : (text : List ℕ) (j k : ℕ) → j ≤ length text → k ≤ length text → byte_position text j ≡ byte_position text k → j ≡ k
byte_position_same text j k hj hk e =
    ⊎_elim
    (λ (below : j < k). omega (arith, byte_position-lt text j k below hk))
    (λ (above : k ≤ j). ⊎_elim
    (λ (below : k < j). omega (arith, byte_position-lt text k j below hj))
    (λ (same : j ≤ k). omega arith)
    (cases_lt k j))
    (cases_lt j k)

pub byte_position-zero : (text : List ℕ) → byte_position text 0 ≡ 0
unfolding byte_position
byte_position-zero text = refl

-- The next position is after the bytes of the character between the two.
pub byte_position-add-one : (text : List ℕ) (k : ℕ) → k < length text →
    byte_position text (k + 1) ≡ byte_position text k + len_utf8 (slice_index text k)
unfolding byte_position
byte_position-add-one text k h =
    let c = slice_index text k in
    ap (λ xs. length (encode_utf8_all xs)) (take_more text k 0 h)
    ∙ ap length (encodes-append (take k text) (c ∷ []))
    ∙ length-append (encode_utf8_all (take k text)) (encode_utf8_all (c ∷ []))
    ∙ ap (λ bs. length (encode_utf8_all (take k text)) + length bs) (append-nil (encode_utf8 c))
    ∙ ap (λ n. length (encode_utf8_all (take k text)) + n) (length-encode c)

-- ---- the character at a position

-- The UTF-8 of c begins at byte k.
abbrev has_bytes_at : List ℕ → ℕ → ℕ → Bool
has_bytes_at bytes k c = starts_with nat_eq (drop k bytes) (encode_utf8 c)

-- `character_at` finds a character exactly where its UTF-8 begins.
pub character_at_from : (bytes : List ℕ) (k c : ℕ) (rest : List ℕ) → IsScalar c → drop k bytes ≡ encode_utf8 c ++ rest →
    character_at bytes k ≡ Some c
unfolding character_at
character_at_from bytes k c rest s e =
    let one : chars (encode_utf8 c) ≡ c ∷ [] =
    ap chars (sym (append-nil (encode_utf8 c))) ∙ chars-encodes (c ∷ []) (and_from _ true s refl) in
    let first : slice_index (chars (drop k bytes)) 0 ≡ c =
    ap (λ bs. slice_index (chars bs) 0) e
    ∙ ap (λ cs. slice_index cs 0) (chars-append (encode_utf8 c) rest (IsUtf8-encode c s) ∙ ap (λ cs. cs ++ chars rest) one) in
    let occurs : has_bytes_at bytes k c ≡ true = (starts_is Decides-eqb (drop k bytes) (encode_utf8 c) _ refl).1 rest e in
    ap (λ x. cond (scalar x && has_bytes_at bytes k x) (Some x) None) first
    ∙ cond-true _ (Some c) None (and_from _ _ s occurs)

pub character_at_parts : (bytes : List ℕ) (k c : ℕ) → character_at bytes k ≡ Some c →
    IsScalar c × ((rest : List ℕ) × (drop k bytes ≡ encode_utf8 c ++ rest))
unfolding character_at
character_at_parts bytes k c e =
    let found = cond_some _ _ c e in
    let both = and_parts _ _ (subst (λ x. (scalar x && has_bytes_at bytes k x) ≡ true) found.1 found.0) in
    (both.0, (_, (starts_is Decides-eqb (drop k bytes) (encode_utf8 c) _ refl).0 both.1))

-- At the byte offset of a position `character_at` finds the character of the text.
pub character_at-byte_position : (text : List ℕ) → IsText text → (k : ℕ) → k < length text →
    character_at (encode_utf8_all text) (byte_position text k) ≡ Some (slice_index text k)
character_at-byte_position text is_text k h =
    character_at_from (encode_utf8_all text) (byte_position text k) (slice_index text k) (encode_utf8_all (drop (k + 1) text)) (is_text k 0 h)
    (drop-byte_position text k ∙ ap encode_utf8_all (drop_more text k 0 h))

-- An option without a character is `None`.
pub no_character : (o : Option ℕ) → ((c : ℕ) → o ≡ Some c → ⊥) → o ≡ None
no_character None h = refl
no_character (Some c) h = absurd (h c refl)

-- and none at the end.
pub character_at-end : (text : List ℕ) (k : ℕ) → length text ≤ k → character_at (encode_utf8_all text) (byte_position text k) ≡ None
character_at-end text k h =
    no_character _ (λ c e.
    let parts = character_at_parts (encode_utf8_all text) (byte_position text k) c e in
    let none : drop (byte_position text k) (encode_utf8_all text) ≡ [] = drop-byte_position text k ∙ ap encode_utf8_all (drop_all k text h) in
    omega (
      arith,
      ap length (sym none ∙ parts.1.1),
      length-append (encode_utf8 c) parts.1.0,
      length-encode c,
      len_utf8_bounds c,
    ))

-- ---- inside a character

-- a byte 10xxxxxx, as all bytes of a character except the first
abbrev six_bits : ℕ → ℕ
six_bits x = 128 + x % 64

abbrev IsContinuation : ℕ → Type 0
IsContinuation b = (128 ≤ b) × (b < 192)

encode_two : (c : ℕ) → 0x80 ≤ c → c < 0x800 → encode_utf8 c ≡ (192 + c / 64) ∷ six_bits c ∷ []
unfolding encode_utf8
encode_two c low high = cond-false _ _ _ (le-ltb c 128 low) ∙ cond-true _ _ _ (lt-ltb c 2048 high)

encode_three : (c : ℕ) → 0x800 ≤ c → c < 0x1_0000 →
    encode_utf8 c ≡ (224 + c / 4096) ∷ six_bits (c / 64) ∷ six_bits c ∷ []
unfolding encode_utf8
encode_three c low high =
    cond-false _ _ _ (le-ltb c 128 (omega arith)) ∙ cond-false _ _ _ (le-ltb c 2048 low) ∙ cond-true _ _ _ (lt-ltb c 65536 high)

encode_four : (c : ℕ) → 0x1_0000 ≤ c →
    encode_utf8 c ≡ (240 + c / 262144) ∷ six_bits (c / 4096) ∷ six_bits (c / 64) ∷ six_bits c ∷ []
unfolding encode_utf8
encode_four c low =
    cond-false _ _ _ (le-ltb c 128 (omega arith)) ∙ cond-false _ _ _ (le-ltb c 2048 (omega arith)) ∙ cond-false _ _ _ (le-ltb c 65536 low)

one_more : (x : ℕ) (bs : List ℕ) → All IsContinuation bs → All IsContinuation (six_bits x ∷ bs)
one_more x bs all = All-cons IsContinuation (six_bits x) bs (omega arith, omega arith) all

after_first : (first : ℕ) (bs : List ℕ) (n : ℕ) → All IsContinuation bs → 0 < n → n < length (first ∷ bs) →
    IsContinuation (slice_index (first ∷ bs) n)
after_first first bs zero all low high = absurd (omega arith)
after_first first bs (suc n) all low high = all n 0 (omega arith)

continuation : (c n : ℕ) → 0 < n → n < len_utf8 c → IsContinuation (slice_index (encode_utf8 c) n)
continuation c n low high =
    let fits : n < length (encode_utf8 c) = omega (arith, length-encode c) in
    let of : (first : ℕ) (bs : List ℕ) → All IsContinuation bs → encode_utf8 c ≡ first ∷ bs →
    IsContinuation (slice_index (encode_utf8 c) n) =
    λ first bs all e.
    subst (λ l. IsContinuation (slice_index l n)) (sym e) (after_first first bs n all low (subst (λ l. n < length l) e fits)) in
    let one = one_more c [] (All-nil IsContinuation) in
    let two = one_more (c / 64) (six_bits c ∷ []) one in
    let three = one_more (c / 4096) (six_bits (c / 64) ∷ six_bits c ∷ []) two in
    ⊎_elim
    (λ (ascii : c < 0x80). of c [] (All-nil IsContinuation) (encode_ascii c ascii))
    (λ (from_two : 0x80 ≤ c). ⊎_elim
    (λ (to_two : c < 0x800). of _ _ one (encode_two c from_two to_two))
    (λ (from_three : 0x800 ≤ c). ⊎_elim
    (λ (to_three : c < 0x1_0000). of _ _ two (encode_three c from_three to_three))
    (λ (from_four : 0x1_0000 ≤ c). of _ _ three (encode_four c from_four))
    (cases_lt c 0x1_0000))
    (cases_lt c 0x800))
    (cases_lt c 0x80)

-- No character begins with a continuation byte.
no_continuation : (c : ℕ) → IsScalar c → IsContinuation (slice_index (encode_utf8 c) 0) → ⊥
no_continuation c s h =
    let start = IsCharBoundary-start (encode_utf8 c) (IsUtf8-encode c s) in
    omega (arith, start.1, length-encode c, len_utf8_bounds c)

byte_of : (bytes front rest : List ℕ) (k n : ℕ) → drop k bytes ≡ front ++ rest → n < length front →
    slice_index bytes (k + n) ≡ slice_index front n
byte_of bytes front rest k n e h =
    sym (get_or-drop k bytes n 0) ∙ ap (λ bs. slice_index bs n) e ∙ get_or_append_left front rest 0 n h

-- No character begins inside another.
pub character_at-inside : (bytes : List ℕ) (k c n : ℕ) (rest : List ℕ) → drop k bytes ≡ encode_utf8 c ++ rest → 0 < n → n < len_utf8 c →
    character_at bytes (k + n) ≡ None
character_at-inside bytes k c n rest here low high =
    no_character _ (λ d e.
    let parts = character_at_parts bytes (k + n) d e in
    let in_place : k + n + 0 ≡ k + n = omega arith in
    let as_first : slice_index bytes (k + n) ≡ slice_index (encode_utf8 d) 0 =
    ap (slice_index bytes) (sym in_place)
    ∙ byte_of bytes (encode_utf8 d) parts.1.0 (k + n) 0 parts.1.1 (omega (arith, length-encode d, len_utf8_bounds d)) in
    let as_later : slice_index bytes (k + n) ≡ slice_index (encode_utf8 c) n =
    byte_of bytes (encode_utf8 c) rest k n here (omega (arith, length-encode c)) in
    no_continuation d parts.0 (subst IsContinuation (sym as_later ∙ as_first) (continuation c n low high)))
