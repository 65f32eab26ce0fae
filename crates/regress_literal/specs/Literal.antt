-- The leaves of a tree to which literals are lowered.
use Rattle.std.specs.Prelude.{◌≡◌, ◌≢◌, ℕ, Bool, false, List, [], ◌∷◌, ◌++◌, map, if◌then◌else◌, encode_utf8_all}
use lib.Utf8.{scalar}
use Rattle.regress_base.specs.Table.{Table, denotes, class_of}
use Rattle.regress_literal.specs.declared.literal.Piece.{Piece}
use Rattle.regress_literal.specs.declared.literal.Piece.TheVariants.{Char, ByteSequence, ByteSet, CharSet}
use Rattle.regress_tree.specs.Matching.{steps_of_parts}
use Rattle.regress_tree.specs.Reading.{forwards, IsText, of_characters}
use Rattle.regress_tree.specs.Steps.{MatchState, Matcher, IsStateOf, byte_state, stay, ◌then_◌, one_character, Setting}
use Rattle.regress_tree.specs.SmallSets.{set_of}
use Rattle.regress_tree.specs.Tree.{Leaf, char, byte_sequence, byte_set, char_set, leaf, list}

-- the leaf of a class that is not a single character: a code point without UTF-8 (a surrogate), or a set
abbrev pub piece_of : List ℕ → Leaf
piece_of [] = char_set []
piece_of (c ∷ []) = char c
piece_of (c ∷ d ∷ rest) = set_of (c ∷ d ∷ rest)

-- The class is one character.
abbrev pub is_character : List ℕ → Bool
is_character [] = false
is_character (c ∷ []) = scalar c
is_character (c ∷ d ∷ rest) = false

-- the bytes as a piece, or no piece if there are none
abbrev pub bytes_piece : List ℕ → List Leaf
bytes_piece [] = []
bytes_piece (b ∷ bytes) = byte_sequence (b ∷ bytes) ∷ []

-- the leaf of a piece
abbrev pub piece : Piece → Leaf
piece (Char c) = char c
piece (ByteSequence bytes) = byte_sequence bytes.items
piece (ByteSet bytes) = byte_set bytes.items
piece (CharSet characters) = char_set characters.items

-- No two adjacent leaves are byte sequences.
abbrev pub NoAdjacentSequences : List Leaf → Type 0
NoAdjacentSequences leaves =
    (front after : List Leaf) (bytes next : List ℕ) → leaves ≢ front ++ byte_sequence bytes ∷ byte_sequence next ∷ after

module _ (table : Table) (icase unicode : Bool) where
  -- The pieces of a list of literals after these bytes: the UTF-8 of a character extends the bytes, and any other class
  -- is a piece by itself (dialect).
  abbrev pub lowered_after : List ℕ → List ℕ → List Leaf
  lowered_after bytes [] = bytes_piece bytes
  lowered_after bytes (c ∷ cs) =
      if is_character (class_of table icase unicode c)
      then lowered_after (bytes ++ encode_utf8_all (class_of table icase unicode c)) cs
      else bytes_piece bytes ++ piece_of (class_of table icase unicode c) ∷ lowered_after [] cs

  -- the pieces of a list of literals
  abbrev pub lowered : List ℕ → List Leaf
  lowered = lowered_after []

  -- the literals in order, over the characters of a text
  abbrev pub literal_steps : List ℕ → List ℕ → Matcher
  literal_steps text [] = stay
  literal_steps text (c ∷ cs) =
      one_character forwards (of_characters text) (denotes table icase unicode c) then_ literal_steps text cs

  -- In every text and from every state the leaves in order match forwards what the literals match, with the same
  -- outcomes in byte offsets.
  abbrev pub MatchLiterals : List ℕ → List Leaf → Type 0
  MatchLiterals literals leaves = (setting : Setting) (text : List ℕ) (s : MatchState) → IsText text → IsStateOf text s →
      steps_of_parts setting (encode_utf8_all text) forwards (list (map leaf leaves)) (byte_state text s)
      ≡ map (byte_state text) (literal_steps text literals s)
