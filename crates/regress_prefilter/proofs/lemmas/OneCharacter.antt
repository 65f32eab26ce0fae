-- Leaves that match one character, and how they read it.
use Rattle.std.proofs.Common.{◌≡◌, ◌==◌, ◌∙◌, ℕ, ◌+◌, Bool, true, false, List, ◌++◌, length, Option, Some, None, refl, sym, ap, subst, arith, append-nil, if◌then◌else◌}
use Rattle.std.specs.Char.{IsScalar, len_utf8, encode_utf8}
use Rattle.std.specs.Option.{option_map}
use Rattle.std.proofs.lemmas.Bool.{eqb-true}
use Rattle.std.proofs.lemmas.List.{length-append, nil_from_length}
use Rattle.std.proofs.lemmas.Str.{length-encode}
use Rattle.regress_tree.specs.Matching.{steps}
use Rattle.regress_tree.specs.Reading.{Direction, forwards, backwards, Read, character_at, read_after, of_bytes}
use Rattle.regress_tree.specs.Steps.{MatchState, one_character, these_bytes, Setting}
use Rattle.regress_tree.specs.Tree.{empty, goal, char, byte_sequence, byte_set, char_set, match_any, match_any_except_line_terminator, anchor, word_boundary, bracket, back_ref, string_set, Tree, leaf, cat, alt, wrapped}
use Rattle.regress_tree.proofs.lemmas.ByteSequences.{these_bytes-one, these_bytes_before-one}
use Rattle.regress_tree.proofs.lemmas.Characters.{character_at_parts}
use Rattle.regress_prefilter.specs.OneCharacter.{up_to_position, sole_character, is_one, is_this, takes_one, test_of}

position_or : ℕ → Option Read → ℕ
position_or k None = k
position_or k (Some read) = read.position

character_or : Option Read → ℕ
character_or None = 0
character_or (Some read) = read.character

parse_parts : (o : Option ℕ) (k : ℕ) (read : Read) → option_map (λ c. record { character = c; position = k + len_utf8 c }) o ≡ Some read →
    (o ≡ Some read.character) × (read.position ≡ k + len_utf8 read.character)
unfolding position_or character_or
parse_parts None k read e = let bad : ⊥ = cc in absurd bad
parse_parts (Some c) k read e =
    let same : c ≡ read.character = ap character_or e in
    (ap Some same, sym (ap (position_or 0) e) ∙ ap (λ x. k + len_utf8 x) same)

pub after_parts : (bytes : List ℕ) (k : ℕ) (read : Read) → read_after bytes k ≡ Some read →
    (character_at bytes k ≡ Some read.character) × (read.position ≡ k + len_utf8 read.character)
unfolding read_after
after_parts bytes k read e = parse_parts (character_at bytes k) k read e

-- bytes that are the UTF-8 encoding of one character
sole-is : (written : List ℕ) (o : Option Read) (c : ℕ) → up_to_position (length written) o ≡ Some c →
    (read : Read) × (o ≡ Some read) × (read.position ≡ length written) × (read.character ≡ c)
sole-is written None c e = let bad : ⊥ = cc in absurd bad
sole-is written (Some read) c e =
    let at_end = ended (read.position == length written) refl e in
    (read, refl, at_end.0, at_end.1)
  where
    the_character : Option ℕ → ℕ
    the_character None = read.character
    the_character (Some x) = x

    ended : (b : Bool) → (read.position == length written) ≡ b → (if b then Some read.character else None) ≡ Some c →
        (read.position ≡ length written) × (read.character ≡ c)
    ended true is e = (eqb-true read.position (length written) is, ap the_character e)
    ended false is e = let bad : ⊥ = cc in absurd bad

pub sole-encodes : (written : List ℕ) (c : ℕ) → sole_character written ≡ Some c → IsScalar c × (written ≡ encode_utf8 c)
sole-encodes written c e =
    let found = sole-is written (read_after written 0) c e in
    let parts = after_parts written 0 found.0 found.1 in
    let occurs = character_at_parts written 0 found.0.character parts.0 in
    let none : length occurs.1.0 ≡ 0 =
    omega (arith, found.2, parts.1, ap length occurs.1.1, length-append (encode_utf8 found.0.character) occurs.1.0, length-encode found.0.character) in (
      subst IsScalar found.3 occurs.0,
      occurs.1.1
          ∙ ap (λ xs. encode_utf8 found.0.character ++ xs) (nil_from_length occurs.1.0 none)
          ∙ append-nil (encode_utf8 found.0.character)
          ∙ ap encode_utf8 found.3,
    )

sole-steps : (bytes : List ℕ) (d : Direction) (written : List ℕ) (s : MatchState) (o : Option ℕ) → sole_character written ≡ o → is_one o ≡ true →
    these_bytes d bytes written s ≡ one_character d (of_bytes bytes) (is_this (sole_character written)) s
sole-steps bytes d written s None e is = let bad : ⊥ = cc in absurd bad
sole-steps bytes d written s (Some c) e is =
    let parts = sole-encodes written c e in
    ap (λ w. these_bytes d bytes w s) parts.1
    ∙ either d parts.0
    ∙ ap (λ o. one_character d (of_bytes bytes) (is_this o) s) (sym e)
  where
    either : (d : Direction) → IsScalar c → these_bytes d bytes (encode_utf8 c) s ≡ one_character d (of_bytes bytes) (λ x. x == c) s
    either forwards scalar = these_bytes-one bytes c scalar s
    either backwards scalar = these_bytes_before-one bytes c scalar s

-- a leaf that matches one character has the outcome after that character, if it passes the test
pub takes_one-steps : (setting : Setting) (bytes : List ℕ) (d : Direction) (t : Tree) (s : MatchState) → takes_one t ≡ true →
    steps setting bytes d t s ≡ one_character d (of_bytes bytes) (test_of t) s
takes_one-steps setting bytes d (leaf (char c)) s is = refl
takes_one-steps setting bytes d (leaf (byte_set members)) s is = refl
takes_one-steps setting bytes d (leaf (char_set members)) s is = refl
takes_one-steps setting bytes d (leaf match_any) s is = refl
takes_one-steps setting bytes d (leaf match_any_except_line_terminator) s is = refl
takes_one-steps setting bytes d (leaf (bracket invert intervals)) s is = refl
takes_one-steps setting bytes d (leaf empty) s is = cc
takes_one-steps setting bytes d (leaf goal) s is = cc
takes_one-steps setting bytes d (leaf (byte_sequence written)) s is =
    sole-steps bytes d written s (sole_character written) refl is
takes_one-steps setting bytes d (leaf (anchor kind multiline)) s is = cc
takes_one-steps setting bytes d (leaf (word_boundary invert icase)) s is = cc
takes_one-steps setting bytes d (leaf (back_ref group icase)) s is = cc
takes_one-steps setting bytes d (leaf (string_set strings icase)) s is = cc
takes_one-steps setting bytes d (cat parts) s is = cc
takes_one-steps setting bytes d (alt left right) s is = cc
takes_one-steps setting bytes d (wrapped w body) s is = cc
