-- A byte sequence matches the characters of which it is the UTF-8, in order.
use Rattle.std.proofs.Common.{◌≡◌, ℕ, ◌+◌, ◌-◌, ◌==◌, Bool, true, false, cond, ◌&&◌, List, [], ◌∷◌, ◌++◌, length, drop, flat_map, Option, Some, None, option_map, option_and_then, IfSome, ◌⊎◌, inl, inr, nat_le, refl, sym, ap, ◌∙◌, subst, ⊎_elim, arith, add-zero, append-nil, append_assoc, nat_eq}
use Rattle.std.proofs.lemmas.List.{length-append, drop-drop, drop_at}
use Rattle.std.proofs.lemmas.Bool.{false≢true, leb-true, le-leb, and_parts, and_from, cond-true, cond-false, cases_Bool, eq-eqb, eqb-true, ne_eqb}
use Rattle.std.proofs.lemmas.Bool.Decides.{Decides-eqb}
use Rattle.std.proofs.lemmas.Option.{cond_some}
use Rattle.std.proofs.lemmas.Slice.Eq.{starts_is}
use Rattle.std.proofs.lemmas.Str.{length-encode}
use Rattle.std.specs.Char.{IsScalar, len_utf8, encode_utf8}
use Rattle.std.specs.List.{starts_with}
use Rattle.std.specs.Option.{option_or}
use Rattle.regress_base.proofs.lemmas.Literals.{same_tests}
use Rattle.regress_tree.specs.Reading.{Direction, forwards, backwards, Read, next_character, of_bytes, character_at, read_after, read_before_by, read_before}
use Rattle.regress_tree.specs.Steps.{MatchState, stay, ◌then_◌, moved, one_character, these_bytes}
use Rattle.regress_tree.proofs.lemmas.Characters.{character_at_from, character_at_parts}
use Rattle.regress_tree.proofs.lemmas.Readings.{read_before-after}

-- The bytes are at that offset.
abbrev occurs : List ℕ → ℕ → List ℕ → Bool
occurs bytes k written = starts_with nat_eq (drop k bytes) written

occurs_parts : (bytes : List ℕ) (k : ℕ) (written : List ℕ) → occurs bytes k written ≡ true →
    drop k bytes ≡ written ++ drop (length written) (drop k bytes)
occurs_parts bytes k written h = (starts_is Decides-eqb (drop k bytes) written _ refl).0 h

occurs_from : (bytes : List ℕ) (k : ℕ) (written rest : List ℕ) → drop k bytes ≡ written ++ rest → occurs bytes k written ≡ true
occurs_from bytes k written rest e = (starts_is Decides-eqb (drop k bytes) written _ refl).1 rest e

-- what follows the bytes at an offset
after : (bytes : List ℕ) (k : ℕ) (written rest : List ℕ) → drop k bytes ≡ written ++ rest → drop (k + length written) bytes ≡ rest
after bytes k written rest e =
    sym (drop-drop (length written) k bytes) ∙ ap (drop (length written)) e ∙ drop_at written rest (length written) refl

occurs-append : (bytes : List ℕ) (k : ℕ) (first second : List ℕ) →
    occurs bytes k (first ++ second) ≡ (occurs bytes k first && occurs bytes (k + length first) second)
occurs-append bytes k first second =
    same_tests _ _
    (λ h.
    let rest = drop (length (first ++ second)) (drop k bytes) in
    let e : drop k bytes ≡ first ++ (second ++ rest) = occurs_parts bytes k (first ++ second) h ∙ append_assoc first second rest in
    and_from _ _ (occurs_from bytes k first (second ++ rest) e)
    (occurs_from bytes (k + length first) second rest (after bytes k first (second ++ rest) e)))
    (λ h.
    let both = and_parts _ _ h in
    let rest = drop (length second) (drop (k + length first) bytes) in
    let first_occurs = occurs_parts bytes k first both.0 in
    let second_occurs = occurs_parts bytes (k + length first) second both.1 in
    occurs_from bytes k (first ++ second) rest
    (first_occurs
    ∙ ap (λ xs. first ++ xs) (drop-drop (length first) k bytes ∙ second_occurs)
    ∙ sym (append_assoc first second rest)))

-- ---- no bytes

pub these_bytes-none : (d : Direction) (bytes : List ℕ) (s : MatchState) → these_bytes d bytes [] s ≡ stay s
unfolding these_bytes
these_bytes-none forwards bytes s = ap (λ k. record s { position = k } ∷ []) (add-zero s.position)
these_bytes-none backwards bytes s =
    ap (λ b. cond (b && true) (record s { position = s.position - 0 } ∷ []) []) (le-leb 0 s.position (omega arith))
    ∙ ap (λ k. record s { position = k } ∷ []) (omega arith)

-- ---- forwards

module _ (bytes : List ℕ) where
  -- two byte sequences, the second after the first
  pub these_bytes-append : (first second : List ℕ) (s : MatchState) →
      these_bytes forwards bytes (first ++ second) s ≡ (these_bytes forwards bytes first then_ these_bytes forwards bytes second) s
  unfolding these_bytes
  these_bytes-append first second s =
      let far : s.position + length (first ++ second) ≡ s.position + length first + length second = omega (arith, length-append first second) in
      ap (λ b. cond b (record s { position = s.position + length (first ++ second) } ∷ []) []) (occurs-append bytes s.position first second)
      ∙ by_test (occurs bytes s.position first) far
    where
      by_test : (a : Bool) → s.position + length (first ++ second) ≡ s.position + length first + length second →
          cond (a && occurs bytes (s.position + length first) second) (record s { position = s.position + length (first ++ second) } ∷ []) []
          ≡ flat_map (these_bytes forwards bytes second) (cond a (record s { position = s.position + length first } ∷ []) [])
      by_test true far =
          ap (λ p. cond (occurs bytes (s.position + length first) second) (record s { position = p } ∷ []) []) far ∙ sym (append-nil _)
      by_test false far = refl

  -- the UTF-8 of one character
  module _ (c : ℕ) (scalar_value : IsScalar c) (s : MatchState) where
    no_move : (read : Option ℕ) → character_at bytes s.position ≡ read → occurs bytes s.position (encode_utf8 c) ≡ false →
        moved (λ x. x == c) s (option_map (λ d. record { character = d; position = s.position + len_utf8 d }) read) ≡ []
    no_move None e h = refl
    no_move (Some d) e h =
        cond-false _ _ _ (ne_eqb d c (λ same.
        let parts = character_at_parts bytes s.position d e in
        false≢true (sym h ∙ occurs_from bytes s.position (encode_utf8 c) parts.1.0 (parts.1.1 ∙ ap (λ x. encode_utf8 x ++ parts.1.0) same))))

    pub these_bytes-one : these_bytes forwards bytes (encode_utf8 c) s ≡ one_character forwards (of_bytes bytes) (λ x. x == c) s
    unfolding these_bytes one_character read_after
    these_bytes-one =
        ⊎_elim
        (λ (h : occurs bytes s.position (encode_utf8 c) ≡ true).
        cond-true _ _ _ h
        ∙ ap (λ n. record s { position = s.position + n } ∷ []) (length-encode c)
        ∙ sym (cond-true (c == c) _ _ (eq-eqb c c refl))
        ∙ ap (λ o. moved (λ x. x == c) s (option_map (λ d. record { character = d; position = s.position + len_utf8 d }) o))
        (sym (character_at_from bytes s.position c _ scalar_value (occurs_parts bytes s.position (encode_utf8 c) h))))
        (λ (h : occurs bytes s.position (encode_utf8 c) ≡ false).
        cond-false _ _ _ h ∙ sym (no_move (character_at bytes s.position) refl h))
        (cases_Bool (occurs bytes s.position (encode_utf8 c)))

-- ---- backwards

-- The bytes end at that offset.
abbrev ends : List ℕ → ℕ → List ℕ → Bool
ends bytes k written = nat_le (length written) k && occurs bytes (k - length written) written

ends-append : (bytes : List ℕ) (k : ℕ) (first second : List ℕ) →
    ends bytes k (first ++ second) ≡ (ends bytes k second && ends bytes (k - length second) first)
ends-append bytes k first second =
    let both = length-append first second in
    let start = k - length (first ++ second) in
    same_tests _ _
    (λ h.
    let parts = and_parts _ _ h in
    let fits = leb-true (length (first ++ second)) k parts.0 in
    let occur = and_parts _ _ (sym (occurs-append bytes start first second) ∙ parts.1) in
    let to_second : start + length first ≡ k - length second = omega (arith, both, fits) in
    let to_first : start ≡ k - length second - length first = omega (arith, both, fits) in
    and_from _ _
    (and_from _ _ (le-leb (length second) k (omega (arith, both, fits))) (subst (λ j. occurs bytes j second ≡ true) to_second occur.1))
    (and_from _ _ (le-leb (length first) (k - length second) (omega (arith, both, fits)))
    (subst (λ j. occurs bytes j first ≡ true) to_first occur.0)))
    (λ h.
    let parts = and_parts _ _ h in
    let later = and_parts _ _ parts.0 in
    let earlier = and_parts _ _ parts.1 in
    let fits_second = leb-true (length second) k later.0 in
    let fits_first = leb-true (length first) (k - length second) earlier.0 in
    let to_second : k - length second ≡ start + length first = omega (arith, both, fits_first, fits_second) in
    let to_first : k - length second - length first ≡ start = omega (arith, both, fits_first, fits_second) in
    and_from _ _ (le-leb (length (first ++ second)) k (omega (arith, both, fits_first, fits_second)))
    (occurs-append bytes start first second
    ∙ and_from _ _ (subst (λ j. occurs bytes j first ≡ true) to_first earlier.1)
    (subst (λ j. occurs bytes j second ≡ true) to_second later.1)))

-- A character that is decoded before an offset ends there.
pub record IsBefore (bytes : List ℕ) (k : ℕ) (r : Read) : Type 0 where
  pub occurs_there : character_at bytes r.position ≡ Some r.character
  pub ends_there : r.position + len_utf8 r.character ≡ k

before_by_parts : (bytes : List ℕ) (n k : ℕ) (r : Read) → read_before_by bytes n k ≡ Some r → IsBefore bytes k r
before_by_parts bytes n k r = by_test (nat_le n k) refl (character_at bytes (k - n)) refl
  where
    by_test : (b : Bool) → nat_le n k ≡ b → (o : Option ℕ) → character_at bytes (k - n) ≡ o →
        cond b (option_and_then (λ c. cond (len_utf8 c == n) (Some (record { character = c; position = k - n })) None) o) None ≡ Some r →
        IsBefore bytes k r
    by_test false fits o e h = cc
    by_test true fits None e h = cc
    by_test true fits (Some c) e h =
        let found = cond_some (len_utf8 c == n) _ r h in
        let long : len_utf8 c ≡ n = eqb-true (len_utf8 c) n found.0 in
        let within = leb-true n k fits in
        subst (IsBefore bytes k) found.1 (record { occurs_there = e; ends_there = omega (arith, long, within) })

or_parts : (o p : Option Read) (r : Read) → option_or o p ≡ Some r → (o ≡ Some r) ⊎ (p ≡ Some r)
or_parts None p r e = inr e
or_parts (Some x) p r e = inl e

pub before_parts : (bytes : List ℕ) (k : ℕ) (r : Read) → read_before bytes k ≡ Some r → IsBefore bytes k r
unfolding read_before
before_parts bytes k r e =
    ⊎_elim (before_by_parts bytes 1 k r)
    (λ e₂. ⊎_elim (before_by_parts bytes 2 k r)
    (λ e₃. ⊎_elim (before_by_parts bytes 3 k r) (before_by_parts bytes 4 k r)
    (or_parts _ _ r e₃)) (or_parts _ _ r e₂)) (or_parts _ _ r e)

module _ (bytes : List ℕ) where
  -- two byte sequences backwards: the second is matched first
  pub these_bytes_before-append : (first second : List ℕ) (s : MatchState) →
      these_bytes backwards bytes (first ++ second) s ≡ (these_bytes backwards bytes second then_ these_bytes backwards bytes first) s
  unfolding these_bytes
  these_bytes_before-append first second s =
      let far : s.position - length (first ++ second) ≡ s.position - length second - length first = omega (arith, length-append first second) in
      ap (λ b. cond b (record s { position = s.position - length (first ++ second) } ∷ []) []) (ends-append bytes s.position first second)
      ∙ by_test (ends bytes s.position second) far
    where
      by_test : (a : Bool) → s.position - length (first ++ second) ≡ s.position - length second - length first →
          cond (a && ends bytes (s.position - length second) first) (record s { position = s.position - length (first ++ second) } ∷ []) []
          ≡ flat_map (these_bytes backwards bytes first) (cond a (record s { position = s.position - length second } ∷ []) [])
      by_test true far =
          ap (λ p. cond (ends bytes (s.position - length second) first) (record s { position = p } ∷ []) []) far ∙ sym (append-nil _)
      by_test false far = refl

  module _ (c : ℕ) (scalar_value : IsScalar c) (s : MatchState) where
    ends_before : (r : Read) → IsBefore bytes s.position r → r.character ≡ c → ends bytes s.position (encode_utf8 c) ≡ true
    ends_before r is same =
        let parts = character_at_parts bytes r.position r.character is.occurs_there in
        let long : length (encode_utf8 c) ≡ len_utf8 r.character = length-encode c ∙ ap len_utf8 (sym same) in
        let start : r.position ≡ s.position - length (encode_utf8 c) = omega (arith, long, is.ends_there) in
        and_from _ _ (le-leb (length (encode_utf8 c)) s.position (omega (arith, long, is.ends_there)))
        (subst (λ j. occurs bytes j (encode_utf8 c) ≡ true) start
        (occurs_from bytes r.position (encode_utf8 c) parts.1.0 (parts.1.1 ∙ ap (λ x. encode_utf8 x ++ parts.1.0) same)))

    no_move_before : (o : Option Read) → read_before bytes s.position ≡ o → ends bytes s.position (encode_utf8 c) ≡ false →
        moved (λ x. x == c) s o ≡ []
    no_move_before None e h = refl
    no_move_before (Some r) e h =
        cond-false _ _ _ (ne_eqb r.character c (λ same. false≢true (sym h ∙ ends_before r (before_parts bytes s.position r e) same)))

    pub these_bytes_before-one : these_bytes backwards bytes (encode_utf8 c) s ≡ one_character backwards (of_bytes bytes) (λ x. x == c) s
    unfolding these_bytes one_character
    these_bytes_before-one =
        ⊎_elim
        (λ (h : ends bytes s.position (encode_utf8 c) ≡ true).
        let parts = and_parts _ _ h in
        let fits = leb-true (length (encode_utf8 c)) s.position parts.0 in
        let start = s.position - length (encode_utf8 c) in
        let position : start + len_utf8 c ≡ s.position = omega (arith, length-encode c, fits) in
        cond-true _ _ _ h
        ∙ sym (cond-true (c == c) _ _ (eq-eqb c c refl))
        ∙ ap (moved (λ x. x == c) s)
        (sym (ap (read_before bytes) (sym position)
        ∙ read_before-after bytes start c _ scalar_value (occurs_parts bytes start (encode_utf8 c) parts.1))))
        (λ (h : ends bytes s.position (encode_utf8 c) ≡ false).
        cond-false _ _ _ h ∙ sym (no_move_before (read_before bytes s.position) refl h))
        (cases_Bool (ends bytes s.position (encode_utf8 c)))

-- ---- tests that agree on characters

-- The decoded character is a Unicode scalar value.
abbrev IsRead : Read → Type 0
IsRead r = IsScalar r.character

after_read : (bytes : List ℕ) (k : ℕ) (o : Option ℕ) → character_at bytes k ≡ o →
    IfSome (option_map (λ c. record { character = c; position = k + len_utf8 c }) o) IsRead
after_read bytes k None e = tt
after_read bytes k (Some c) e = (character_at_parts bytes k c e).0

before_read : (bytes : List ℕ) (n k : ℕ) (o : Option ℕ) → character_at bytes k ≡ o →
    IfSome (option_and_then (λ c. cond (len_utf8 c == n) (Some (record { character = c; position = k })) None) o) IsRead
before_read bytes n k None e = tt
before_read bytes n k (Some c) e = by_test (len_utf8 c == n) (character_at_parts bytes k c e).0
  where
    by_test : (b : Bool) → IsScalar c → IfSome (cond b (Some (record { character = c; position = k })) None) IsRead
    by_test true h = h
    by_test false h = tt

before_by_read : (bytes : List ℕ) (n k : ℕ) → IfSome (read_before_by bytes n k) IsRead
before_by_read bytes n k = by_test (nat_le n k)
  where
    by_test : (b : Bool) →
        IfSome
        (cond b
        (option_and_then (λ c. cond (len_utf8 c == n) (Some (record { character = c; position = k - n })) None) (character_at bytes (k - n)))
        None)
        IsRead
    by_test true = before_read bytes n (k - n) (character_at bytes (k - n)) refl
    by_test false = tt

either_read : (o p : Option Read) → IfSome o IsRead → IfSome p IsRead → IfSome (option_or o p) IsRead
either_read None p first second = second
either_read (Some r) p first second = first

-- A character that is decoded from bytes is a Unicode scalar value.
pub next_character-scalar : (d : Direction) (bytes : List ℕ) (k : ℕ) →
    IfSome (next_character d (of_bytes bytes) k) (λ r. IsScalar r.character)
unfolding read_after read_before
next_character-scalar forwards bytes k = after_read bytes k (character_at bytes k) refl
next_character-scalar backwards bytes k =
    either_read _ _ (before_by_read bytes 1 k)
    (either_read _ _ (before_by_read bytes 2 k) (either_read _ _ (before_by_read bytes 3 k) (before_by_read bytes 4 k)))

moved-agree : (p q : ℕ → Bool) (s : MatchState) (read : Option Read) → ((c : ℕ) → IsScalar c → p c ≡ q c) → IfSome read IsRead →
    moved p s read ≡ moved q s read
moved-agree p q s None agree h = refl
moved-agree p q s (Some r) agree h = ap (λ b. cond b (record s { position = r.position } ∷ []) []) (agree r.character h)

-- Tests that agree on the Unicode scalar values match the same characters.
pub one_character-agree : (d : Direction) (bytes : List ℕ) (p q : ℕ → Bool) → ((c : ℕ) → IsScalar c → p c ≡ q c) → (s : MatchState) →
    one_character d (of_bytes bytes) p s ≡ one_character d (of_bytes bytes) q s
unfolding one_character
one_character-agree d bytes p q agree s =
    moved-agree p q s (next_character d (of_bytes bytes) s.position) agree (next_character-scalar d bytes s.position)
