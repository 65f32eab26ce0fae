-- Decoding of a text, character by character, from a position forwards or backwards.
use Rattle.std.specs.Prelude.{ℕ, Bool, ◌+◌, ◌-◌, ◌&&◌, List, All, length, take, drop, Option, Some, None, if◌then◌else◌, nat_eq, nat_le, ◌==◌, slice_get, slice_index, option_map, option_and_then, chars, encode_utf8, encode_utf8_all}
use Rattle.std.specs.Char.{IsScalar, len_utf8}
use Rattle.std.specs.List.{starts_with}
use Rattle.std.specs.Option.{option_or}
use lib.Utf8.{scalar}

-- Matching runs forwards, or backwards as in a lookbehind (ECMA-262, forward and backward).
pub data Direction : Type 0 where
  forwards : Direction
  backwards : Direction

-- the direction for a flag
abbrev pub direction_if : (backwards : Bool) → Direction
direction_if backwards' = if backwards' then backwards else forwards

-- a decoded character, and the position on its other side
pub record Read : Type 0 where
  pub character : ℕ
  pub position : ℕ

-- How a text is decoded from a position.
pub record Reading : Type 0 where
  -- the character that begins at a position
  pub after : ℕ → Option Read
  -- the character that ends at a position
  pub before : ℕ → Option Read
  -- the position at the end of the text
  pub length : ℕ

-- the next character in a direction
abbrev pub next_character : Direction → Reading → ℕ → Option Read
next_character forwards r = r.after
next_character backwards r = r.before

-- A text is a list of characters, each a Unicode scalar value.
abbrev pub IsText : List ℕ → Type 0
IsText = All IsScalar

-- A text as its characters: position k is after the first k of them.
abbrev pub of_characters : List ℕ → Reading
of_characters text = record {
  after = λ k. option_map (λ c. record { character = c; position = k + 1 }) (slice_get text k);
  before = λ k. if k == 0 then None else option_map (λ c. record { character = c; position = k - 1 }) (slice_get text (k - 1));
  length = length text;
}

module _ (bytes : List ℕ) where
  -- The character whose UTF-8 begins at byte k: the first that decoding yields there, if it is a scalar value whose
  -- encoding is there.
  unfoldable pub character_at : ℕ → Option ℕ
  character_at k =
      let c = slice_index (chars (drop k bytes)) 0 in
      if scalar c && starts_with nat_eq (drop k bytes) (encode_utf8 c) then Some c else None

  -- the character that begins at byte k, and the byte offset after it
  unfoldable pub read_after : ℕ → Option Read
  read_after k = option_map (λ c. record { character = c; position = k + len_utf8 c }) (character_at k)

  -- the character of n bytes that ends at byte k
  abbrev pub read_before_by : ℕ → ℕ → Option Read
  read_before_by n k =
      if nat_le n k
      then option_and_then (λ c. if len_utf8 c == n then Some (record { character = c; position = k - n }) else None) (character_at (k - n))
      else None

  -- the character that ends at byte k, and the byte offset at which it begins
  unfoldable pub read_before : ℕ → Option Read
  read_before k =
      option_or (read_before_by 1 k) (option_or (read_before_by 2 k) (option_or (read_before_by 3 k) (read_before_by 4 k)))

-- A text as the bytes of its UTF-8: a position is a byte offset.
abbrev pub of_bytes : List ℕ → Reading
of_bytes bytes = record { after = read_after bytes; before = read_before bytes; length = length bytes }

-- the byte offset of position k of a text
unfoldable pub byte_position : List ℕ → ℕ → ℕ
byte_position text k = length (encode_utf8_all (take k text))
