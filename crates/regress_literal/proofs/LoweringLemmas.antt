-- The pieces of a list of literals match what the literals match, and no two adjacent ones are byte sequences.
use Rattle.std.proofs.Common.{◌≡◌, ◌≢◌, ℕ, ◌+◌, ◌<◌, ◌≤◌, Bool, true, false, cond, List, [], ◌∷◌, ◌++◌, length, drop, slice_index, map, flat_map, encode_utf8_all, refl, sym, ap, ◌∙◌, ⊎_elim, append-nil, append_assoc}
use mathlib.Core.Path.{fun_ext}
use Rattle.std.proofs.lemmas.Bool.{false≢true, cond-true, cond-false, cond_both, cases_Bool}
use Rattle.std.proofs.lemmas.List.{drop_more}
use Rattle.std.specs.Char.{encode_utf8}
use Rattle.regress_base.specs.Intervals.{code_point_max}
use Rattle.regress_base.specs.Listing.{lists, IsListing}
use Rattle.regress_literal.specs.Literal.{piece_of, is_character, bytes_piece, lowered_after, lowered, literal_steps, NoAdjacentSequences, MatchLiterals}
use Rattle.regress_tree.specs.Matching.{leaf_steps, steps_of_parts}
use Rattle.regress_tree.specs.Reading.{forwards, IsText, of_bytes}
use Rattle.regress_tree.specs.Steps.{MatchState, Matcher, stay, ◌then_◌, one_character, these_bytes, Setting}
use Rattle.regress_base.specs.Table.{Table, denotes, class_of}
use Rattle.regress_tree.specs.SmallSets.{is_ascii}
use Rattle.regress_tree.specs.Tree.{Leaf, byte_sequence, byte_set, char_set, leaf, list}
use Rattle.regress_tree.proofs.lemmas.ByteSequences.{these_bytes-none, these_bytes-append, these_bytes-one}
use Rattle.regress_base.proofs.lemmas.Literals.{listing_is_listed, class_of-some}
use Rattle.regress_tree.proofs.lemmas.Literals.{char-steps, class_of-steps}
use Rattle.regress_tree.proofs.lemmas.Outcomes.{flat_map-stay, flat_map-then}
use Rattle.regress_tree.proofs.lemmas.Simulation.{Simulates, Simulates-same_right, Simulates-stay, Simulates-then, Simulates-one_character}

-- ---- what the pieces match

module _ (setting : Setting) (bytes : List ℕ) where
  abbrev leaves_steps : List Leaf → Matcher
  leaves_steps leaves = steps_of_parts setting bytes forwards (list (map leaf leaves))

  leaves-append : (xs ys : List Leaf) (s : MatchState) → leaves_steps (xs ++ ys) s ≡ (leaves_steps xs then_ leaves_steps ys) s
  leaves-append [] ys s = sym (append-nil _)
  leaves-append (l ∷ xs) ys s =
      ap (λ f. flat_map f (leaf_steps setting bytes forwards l s)) (fun_ext (leaves-append xs ys))
      ∙ flat_map-then (leaves_steps xs) (leaves_steps ys) (leaf_steps setting bytes forwards l s)

  bytes_piece-steps : (written : List ℕ) (s : MatchState) → leaves_steps (bytes_piece written) s ≡ these_bytes forwards bytes written s
  bytes_piece-steps [] s = sym (these_bytes-none forwards bytes s)
  bytes_piece-steps (b ∷ written) s = flat_map-stay (these_bytes forwards bytes (b ∷ written) s)

  -- An empty byte sequence first changes nothing.
  nothing_then : (f : Matcher) (s : MatchState) → (these_bytes forwards bytes [] then_ f) s ≡ f s
  nothing_then f s = ap (flat_map f) (these_bytes-none forwards bytes s) ∙ append-nil (f s)

  -- The piece of a class matches one of the members of the class.
  piece_of-steps : (class : List ℕ) (s : MatchState) →
      leaf_steps setting bytes forwards (piece_of class) s ≡ one_character forwards (of_bytes bytes) (lists class) s
  piece_of-steps [] s = refl
  piece_of-steps (c ∷ []) s = char-steps setting bytes forwards c s
  piece_of-steps (c ∷ e ∷ rest) s = by_test (is_ascii (c ∷ e ∷ rest))
    where
      by_test : (b : Bool) →
          leaf_steps setting bytes forwards (cond b (byte_set (c ∷ e ∷ rest)) (char_set (c ∷ e ∷ rest))) s
          ≡ one_character forwards (of_bytes bytes) (lists (c ∷ e ∷ rest)) s
      by_test true = refl
      by_test false = refl

  character-steps : (class : List ℕ) (s : MatchState) → is_character class ≡ true →
      these_bytes forwards bytes (encode_utf8_all class) s ≡ one_character forwards (of_bytes bytes) (lists class) s
  character-steps [] s h = absurd (false≢true h)
  character-steps (c ∷ []) s h =
      ap (λ written. these_bytes forwards bytes written s) (append-nil (encode_utf8 c))
      ∙ these_bytes-one bytes c h s ∙ char-steps setting bytes forwards c s
  character-steps (c ∷ d ∷ rest) s h = absurd (false≢true h)

  module _ (table : Table) (icase unicode : Bool) where
    -- the literals over the bytes
    abbrev over_bytes : List ℕ → Matcher
    over_bytes [] = stay
    over_bytes (c ∷ cs) = one_character forwards (of_bytes bytes) (denotes table icase unicode c) then_ over_bytes cs

    lowered-steps : (written cs : List ℕ) (s : MatchState) →
        leaves_steps (lowered_after table icase unicode written cs) s ≡ (these_bytes forwards bytes written then_ over_bytes cs) s
    lowered-steps written [] s = bytes_piece-steps written s ∙ sym (flat_map-stay (these_bytes forwards bytes written s))
    lowered-steps written (c ∷ cs) s =
        let class = class_of table icase unicode c in
        let rest = lowered_after table icase unicode [] cs in
        let before = these_bytes forwards bytes written s in
        ⊎_elim
        (λ (one : is_character class ≡ true).
        ap (λ leaves. leaves_steps leaves s) (cond-true _ _ _ one)
        ∙ lowered-steps (written ++ encode_utf8_all class) cs s
        ∙ ap (flat_map (over_bytes cs)) (these_bytes-append bytes written (encode_utf8_all class) s)
        ∙ sym (flat_map-then (these_bytes forwards bytes (encode_utf8_all class)) (over_bytes cs) before)
        ∙ ap (λ (f : Matcher). flat_map (f then_ over_bytes cs) before)
        (fun_ext (λ t. character-steps class t one ∙ class_of-steps setting bytes forwards table icase unicode c t)))
        (λ (several : is_character class ≡ false).
        ap (λ leaves. leaves_steps leaves s) (cond-false _ _ _ several)
        ∙ leaves-append (bytes_piece written) (piece_of class ∷ rest) s
        ∙ ap (flat_map (leaves_steps (piece_of class ∷ rest))) (bytes_piece-steps written s)
        ∙ ap (λ (f : Matcher). flat_map f before)
        (fun_ext (λ t.
        ap (λ (f : Matcher). flat_map f (leaf_steps setting bytes forwards (piece_of class) t))
        (fun_ext (λ u. lowered-steps [] cs u ∙ nothing_then (over_bytes cs) u))
        ∙ ap (flat_map (over_bytes cs))
        (piece_of-steps class t ∙ class_of-steps setting bytes forwards table icase unicode c t))))
        (cases_Bool (is_character class))

module _ (table : Table) (icase unicode : Bool) (setting : Setting) (text : List ℕ) (is_text : IsText text) where
  literals_simulate : (cs : List ℕ) →
      Simulates text forwards (literal_steps table icase unicode text cs) (over_bytes setting (encode_utf8_all text) table icase unicode cs)
  literals_simulate [] = Simulates-stay text forwards
  literals_simulate (c ∷ cs) =
      Simulates-then text forwards _ _ _ _ (Simulates-one_character text is_text forwards (denotes table icase unicode c))
      (literals_simulate cs)

  -- Forwards the pieces match over the bytes what the literals match over the characters.
  pub lowered_simulates : (cs : List ℕ) →
      Simulates text forwards (literal_steps table icase unicode text cs)
      (steps_of_parts setting (encode_utf8_all text) forwards (list (map leaf (lowered table icase unicode cs))))
  lowered_simulates cs =
      Simulates-same_right text forwards _ _ _
      (λ s. lowered-steps setting (encode_utf8_all text) table icase unicode [] cs s
      ∙ nothing_then setting (encode_utf8_all text) (over_bytes setting (encode_utf8_all text) table icase unicode cs) s)
      (literals_simulate cs)

pub lowered-mean : (table : Table) (icase unicode : Bool) (cs : List ℕ) →
    MatchLiterals table icase unicode cs (lowered table icase unicode cs)
lowered-mean table icase unicode cs setting text s is_text in' = (lowered_simulates table icase unicode setting text is_text cs).same s in'

-- ---- no two adjacent pieces are byte sequences

abbrev IsNoSequence : Leaf → Type 0
IsNoSequence l = (bytes : List ℕ) → l ≢ byte_sequence bytes

piece_of-no_sequence : (class : List ℕ) → IsNoSequence (piece_of class)
piece_of-no_sequence [] bytes e = cc
piece_of-no_sequence (c ∷ []) bytes e = cc
piece_of-no_sequence (c ∷ d ∷ rest) bytes e = by_test (is_ascii (c ∷ d ∷ rest)) e
  where
    by_test : (b : Bool) → cond b (byte_set (c ∷ d ∷ rest)) (char_set (c ∷ d ∷ rest)) ≡ byte_sequence bytes → ⊥
    by_test true e = cc
    by_test false e = cc

apart-none : NoAdjacentSequences []
apart-none [] after bytes next e = cc
apart-none (l ∷ front) after bytes next e = cc

apart-piece : (l : Leaf) (leaves : List Leaf) → IsNoSequence l → NoAdjacentSequences leaves → NoAdjacentSequences (l ∷ leaves)
apart-piece l leaves alone apart [] after bytes next e = let same : l ≡ byte_sequence bytes = cc in alone bytes same
apart-piece l leaves alone apart (first ∷ front) after bytes next e =
    let rest : leaves ≡ front ++ byte_sequence bytes ∷ byte_sequence next ∷ after = cc in apart front after bytes next rest

apart-sequence : (written : List ℕ) → NoAdjacentSequences (byte_sequence written ∷ [])
apart-sequence written [] after bytes next e = cc
apart-sequence written (first ∷ front) after bytes next e =
    let rest : [] ≡ front ++ byte_sequence bytes ∷ byte_sequence next ∷ after = cc in apart-none front after bytes next rest

apart-after : (written : List ℕ) (l : Leaf) (leaves : List Leaf) → IsNoSequence l → NoAdjacentSequences (l ∷ leaves) →
    NoAdjacentSequences (byte_sequence written ∷ l ∷ leaves)
apart-after written l leaves alone apart [] after bytes next e = let same : l ≡ byte_sequence next = cc in alone next same
apart-after written l leaves alone apart (first ∷ front) after bytes next e =
    let rest : l ∷ leaves ≡ front ++ byte_sequence bytes ∷ byte_sequence next ∷ after = cc in apart front after bytes next rest

apart-bytes : (written : List ℕ) → NoAdjacentSequences (bytes_piece written)
apart-bytes [] = apart-none
apart-bytes (b ∷ written) = apart-sequence (b ∷ written)

apart-bytes_after : (written : List ℕ) (l : Leaf) (leaves : List Leaf) → IsNoSequence l → NoAdjacentSequences leaves →
    NoAdjacentSequences (bytes_piece written ++ l ∷ leaves)
apart-bytes_after [] l leaves alone apart = apart-piece l leaves alone apart
apart-bytes_after (b ∷ written) l leaves alone apart = apart-after (b ∷ written) l leaves alone (apart-piece l leaves alone apart)

module _ (table : Table) (icase unicode : Bool) where
  lowered_after-apart : (written cs : List ℕ) → NoAdjacentSequences (lowered_after table icase unicode written cs)
  lowered_after-apart written [] = apart-bytes written
  lowered_after-apart written (c ∷ cs) =
      let class = class_of table icase unicode c in
      cond_both (is_character class) _ _ NoAdjacentSequences
      (λ one. lowered_after-apart (written ++ encode_utf8_all class) cs)
      (λ several. apart-bytes_after written (piece_of class) _ (piece_of-no_sequence class) (lowered_after-apart [] cs))

  pub lowered-apart : (cs : List ℕ) → NoAdjacentSequences (lowered table icase unicode cs)
  lowered-apart cs = lowered_after-apart [] cs

  -- ---- one more literal

  lowered-character : (written : List ℕ) (c ch : ℕ) (cs : List ℕ) → class_of table icase unicode c ≡ ch ∷ [] →
      is_character (ch ∷ []) ≡ true →
      lowered_after table icase unicode written (c ∷ cs) ≡ lowered_after table icase unicode (written ++ encode_utf8 ch) cs
  lowered-character written c ch cs one h =
      cond-true _ _ _ (ap is_character one ∙ h)
      ∙ ap (λ bytes. lowered_after table icase unicode (written ++ bytes) cs) (ap encode_utf8_all one ∙ append-nil (encode_utf8 ch))

  lowered-piece : (written : List ℕ) (c : ℕ) (cs : List ℕ) → is_character (class_of table icase unicode c) ≡ false →
      lowered_after table icase unicode written (c ∷ cs)
      ≡ bytes_piece written ++ piece_of (class_of table icase unicode c) ∷ lowered_after table icase unicode [] cs
  lowered-piece written c cs h = cond-false _ _ _ h

  -- The pieces found, and those of the literals from i on after these bytes, are the pieces of all literals.
  abbrev pub ArePieces : List Leaf → List ℕ → List ℕ → ℕ → Type 0
  ArePieces found written cps i = found ++ lowered_after table icase unicode written (drop i cps) ≡ lowered table icase unicode cps

  module _
      (found : List Leaf) (written cps : List ℕ) (i : ℕ) (so_far : ArePieces found written cps i) (within : i < length cps)
      (class : List ℕ) (listing : IsListing (denotes table icase unicode (slice_index cps i)) class)
    where
      at_position : found ++ lowered_after table icase unicode written (slice_index cps i ∷ drop (i + 1) cps)
          ≡ lowered table icase unicode cps
      at_position = ap (λ rest. found ++ lowered_after table icase unicode written rest) (sym (drop_more cps i 0 within)) ∙ so_far

      its_class : class ≡ class_of table icase unicode (slice_index cps i)
      its_class = listing_is_listed (denotes table icase unicode (slice_index cps i)) class listing

      pub step_character : (ch : ℕ) → class ≡ ch ∷ [] → is_character class ≡ true →
          ArePieces found (written ++ encode_utf8 ch) cps (i + 1)
      step_character ch one h =
          ap (λ leaves. found ++ leaves)
          (sym (lowered-character written (slice_index cps i) ch (drop (i + 1) cps) (sym its_class ∙ one)
          (ap is_character (sym one) ∙ h)))
          ∙ at_position

      pub step_piece : is_character class ≡ false →
          ArePieces ((found ++ bytes_piece written) ++ piece_of class ∷ []) [] cps (i + 1)
      step_piece h =
          let rest = lowered_after table icase unicode [] (drop (i + 1) cps) in
          append_assoc (found ++ bytes_piece written) (piece_of class ∷ []) rest
          ∙ append_assoc found (bytes_piece written) (piece_of class ∷ rest)
          ∙ ap (λ members. found ++ (bytes_piece written ++ piece_of members ∷ rest)) its_class
          ∙ ap (λ leaves. found ++ leaves)
          (sym (lowered-piece written (slice_index cps i) (drop (i + 1) cps) (ap is_character (sym its_class) ∙ h)))
          ∙ at_position

      pub class-some : slice_index cps i ≤ code_point_max → class ≢ []
      class-some h none = class_of-some table icase unicode (slice_index cps i) h (sym its_class ∙ none)
