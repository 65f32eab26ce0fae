-- Anchors and word boundaries hold over the bytes of a text where they hold over its characters.
use Rattle.std.proofs.Common.{◌≡◌, ℕ, ◌≤◌, Bool, ◌&&◌, ◌||◌, ◌==◌, List, length, Option, Some, None, option_map, encode_utf8_all, refl, sym, ap, ap₂, ◌∙◌, arith}
use Rattle.std.proofs.lemmas.List.{take_all}
use Rattle.regress_base.specs.declared.types.AnchorType.{AnchorType}
use Rattle.regress_base.specs.declared.types.AnchorType.TheVariants.{StartOfLine, EndOfLine}
use Rattle.regress_tree.specs.Reading.{Direction, Read, IsText, of_characters, of_bytes, byte_position}
use Rattle.regress_tree.specs.Steps.{hold_at}
use Rattle.regress_tree.specs.Assertions.{is_line_terminator, passes, at_anchor, differ, at_boundary}
use Rattle.regress_tree.proofs.lemmas.ByteStates.{eqb-byte_position}
use Rattle.regress_tree.proofs.lemmas.Characters.{byte_position-zero}
use Rattle.regress_tree.proofs.lemmas.Readings.{byte_read, read_after-byte_position, read_before-byte_position}
use Rattle.regress_tree.proofs.lemmas.Simulation.{Simulates, Simulates-hold_at}

passes-byte_read : (text : List ℕ) (test : ℕ → Bool) (read : Option Read) →
    passes test (option_map (byte_read text) read) ≡ passes test read
passes-byte_read text test None = refl
passes-byte_read text test (Some read) = refl

byte_position-length : (text : List ℕ) → byte_position text (length text) ≡ length (encode_utf8_all text)
unfolding byte_position
byte_position-length text = ap (λ cs. length (encode_utf8_all cs)) (take_all (length text) text (omega arith))

module _ (text : List ℕ) (is_text : IsText text) (k : ℕ) (within : k ≤ length text) where
  -- the neighbours
  passes-before : (test : ℕ → Bool) →
      passes test ((of_bytes (encode_utf8_all text)).before (byte_position text k)) ≡ passes test ((of_characters text).before k)
  passes-before test =
      ap (passes test) (read_before-byte_position text is_text k within) ∙ passes-byte_read text test ((of_characters text).before k)

  passes-after : (test : ℕ → Bool) →
      passes test ((of_bytes (encode_utf8_all text)).after (byte_position text k)) ≡ passes test ((of_characters text).after k)
  passes-after test =
      ap (passes test) (read_after-byte_position text is_text k within) ∙ passes-byte_read text test ((of_characters text).after k)

  -- the ends
  at_start : (byte_position text k == 0) ≡ (k == 0)
  at_start = ap (λ j. byte_position text k == j) (sym (byte_position-zero text)) ∙ eqb-byte_position text k 0 within (omega arith)

  at_end : (byte_position text k == length (encode_utf8_all text)) ≡ (k == length text)
  at_end =
      ap (λ j. byte_position text k == j) (sym (byte_position-length text)) ∙ eqb-byte_position text k (length text) within (omega arith)

  at_anchor-byte_position : (kind : AnchorType) (multiline : Bool) →
      at_anchor (of_bytes (encode_utf8_all text)) kind multiline (byte_position text k) ≡ at_anchor (of_characters text) kind multiline k
  at_anchor-byte_position StartOfLine multiline =
      ap₂ (λ a b. a || (multiline && b)) at_start (passes-before is_line_terminator)
  at_anchor-byte_position EndOfLine multiline =
      ap₂ (λ a b. a || (multiline && b)) at_end (passes-after is_line_terminator)

  at_boundary-byte_position : (is_word : ℕ → Bool) (invert : Bool) →
      at_boundary (of_bytes (encode_utf8_all text)) is_word invert (byte_position text k) ≡ at_boundary (of_characters text) is_word invert k
  at_boundary-byte_position is_word invert =
      ap₂ (λ a b. differ invert (differ a b)) (passes-before is_word) (passes-after is_word)

module _ (text : List ℕ) (is_text : IsText text) (d : Direction) where
  pub Simulates-anchor : (kind : AnchorType) (multiline : Bool) →
      Simulates text d (hold_at (at_anchor (of_characters text) kind multiline))
      (hold_at (at_anchor (of_bytes (encode_utf8_all text)) kind multiline))
  Simulates-anchor kind multiline =
      Simulates-hold_at text d _ _ (λ k within. at_anchor-byte_position text is_text k within kind multiline)

  pub Simulates-boundary : (is_word : ℕ → Bool) (invert : Bool) →
      Simulates text d (hold_at (at_boundary (of_characters text) is_word invert))
      (hold_at (at_boundary (of_bytes (encode_utf8_all text)) is_word invert))
  Simulates-boundary is_word invert =
      Simulates-hold_at text d _ _ (λ k within. at_boundary-byte_position text is_text k within is_word invert)
