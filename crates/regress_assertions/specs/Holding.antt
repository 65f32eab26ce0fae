-- Assertions that can never hold between what is directly before them and directly after them.
use Rattle.std.specs.Prelude.{Bool, true, false, not, ◌&&◌, ◌||◌, List, [], ◌∷◌, Option, Some, None, if◌then◌else◌}
use Rattle.regress_base.specs.Classes.{line_terminators, word_characters}
use Rattle.regress_base.specs.Intervals.{Bounds}
use Rattle.regress_base.specs.declared.types.AnchorType.{AnchorType}
use Rattle.regress_base.specs.declared.types.AnchorType.TheVariants.{StartOfLine, EndOfLine}
use Rattle.regress_tree.specs.Tree.{Leaf, empty, anchor, word_boundary, Wrapper, lookaround, Tree, leaf, cat, alt, wrapped}
use Rattle.regress_assertions.specs.Characters.{Characters, complement, set_of_tree}
use Rattle.regress_assertions.specs.Edges.{opens, closes, first_part}

-- what nothing is known of
abbrev pub unknown : Tree
unknown = leaf empty

-- all characters, or with m all but the ends of lines
abbrev pub inside_line : Bool → Characters
inside_line multiline = record { inverted = true; intervals = if multiline then line_terminators else []; points = [] }

-- word characters
abbrev pub word : Characters
word = record { inverted = false; intervals = word_characters; points = [] }

-- Characters that are no word characters. With i and u also U+017F and U+212A are.
abbrev pub no_word : Characters
no_word = record { inverted = true; intervals = word_characters; points = 0x17F ∷ 0x212A ∷ [] }

-- In the order of the list: whether it is that of the text backwards, and what is directly before and after.
module _ (backwards : Bool) (previous next : Tree) where
  -- What the text has directly before the assertion is a character of the set.
  abbrev pub is_after : Characters → Bool
  is_after set = if backwards then opens set next else closes set previous

  -- What the text has directly after the assertion is a character of the set.
  abbrev pub is_before : Characters → Bool
  is_before set = if backwards then closes set previous else opens set next

  -- ---- `^` and `$`

  abbrev pub fails_anchor : AnchorType → (multiline : Bool) → Bool
  fails_anchor StartOfLine multiline = is_after (inside_line multiline)
  fails_anchor EndOfLine multiline = is_before (inside_line multiline)

  -- ---- `\b` and `\B`

  abbrev pub fails_boundary : (invert : Bool) → Bool
  fails_boundary false = is_after word && is_before word || is_after no_word && is_before no_word
  fails_boundary true = is_after word && is_before no_word || is_after no_word && is_before word

  -- ---- lookarounds

  abbrev pub is_beside : (behind : Bool) → Characters → Bool
  is_beside behind set = if behind then is_after set else is_before set

  -- The character there is in this set, if there is one.
  abbrev pub is_beside_in : (behind : Bool) → Option Characters → Bool
  is_beside_in behind None = false
  is_beside_in behind (Some set) = is_beside behind set

  -- The character there is not in this set, if there is one.
  abbrev pub is_beside_out : (behind : Bool) → Option Characters → Bool
  is_beside_out behind None = false
  is_beside_out behind (Some set) = is_beside behind (complement set)

  -- One that is negated fails where its only character is, and another one where its first character is not.
  abbrev pub fails_lookaround : (negate behind : Bool) → (body : Tree) → Bool
  fails_lookaround false behind body = is_beside_out behind (set_of_tree (first_part body))
  fails_lookaround true behind body = is_beside_in behind (set_of_tree body)

  -- ---- any tree

  abbrev pub fails_leaf : Leaf → Bool
  fails_leaf (anchor kind multiline) = fails_anchor kind multiline
  fails_leaf (word_boundary invert unicode_icase) = fails_boundary invert
  fails_leaf l = false

  abbrev pub fails_wrapper : Wrapper → (body : Tree) → Bool
  fails_wrapper (lookaround negate behind start end) body = fails_lookaround negate behind body
  fails_wrapper w body = false

  -- The tree is an assertion that never holds there.
  abbrev pub fails : Tree → Bool
  fails (leaf l) = fails_leaf l
  fails (cat parts) = false
  fails (alt left right) = false
  fails (wrapped w body) = fails_wrapper w body
