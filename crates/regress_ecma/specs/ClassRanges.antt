-- ECMA-262 (2025), 22.2.1 Patterns with B.1.2: CharacterClass without the flag v, and its early errors (22.2.1.1, B.1.2.1). The
-- parameters [UnicodeMode] and [NamedCaptureGroups] are `unicode` and `named`. Code units are as `source_character` has them.
use Rattle.std.specs.Prelude.{◌≡◌, ℕ, Bool, true, false, not, ◌&&◌, ◌||◌, [], ◌∷◌, ◌⊎◌, Some, None, if◌then◌else◌, nat_le, ◌==◌}
use Rattle.regress_base.specs.declared.charclasses.CharacterClassType.TheVariants.{Digits, Spaces, Words}
use Rattle.regress_base.specs.Table.{Table}
use Rattle.regress_lexer.specs.Source.{Source, Found, ◌>>=◌, found_map, char, is_one_of, is_at}
use Rattle.regress_lexer.specs.Digits.{is_decimal}
use Rattle.regress_classes.specs.Properties.{Property, of_points, of_strings, property_at}
use Rattle.regress_ecma.specs.CharacterEscapes.{first_of, given, terminal, led_by, source_character_but, control_letter, character_escape}
use Rattle.regress_ecma.specs.ClassNodes.{ClassAtom, character, class_escape, property, string_property, ClassContents, empty, atom_then, range_then, intersection, subtraction, CharacterClass}

-- ---- CharacterClassEscape

-- 22.2.1.1: `\P` is a Syntax Error if MayContainStrings of its UnicodePropertyValueExpression.
abbrev pub property_escape : (capital : Bool) → Property × Source → Found ClassAtom
property_escape capital (of_points members, t) = Some (property members capital, t)
property_escape capital (of_strings strings, t) = if capital then None else Some (string_property strings, t)

-- `{` UnicodePropertyValueExpression `}`; `sets` is [UnicodeSetsMode]
abbrev pub property_value : (sets : Bool) → Table → (capital : Bool) → Source → Found ClassAtom
property_value sets table capital t = property_at sets table t >>= property_escape capital

abbrev pub character_class_escape : (unicode sets : Bool) → Table → Source → Found ClassAtom
character_class_escape unicode sets table t =
    first_of (
    terminal (char "d") (class_escape Digits false) t
    ∷ terminal (char "D") (class_escape Digits true) t
    ∷ terminal (char "s") (class_escape Spaces false) t
    ∷ terminal (char "S") (class_escape Spaces true) t
    ∷ terminal (char "w") (class_escape Words false) t
    ∷ terminal (char "W") (class_escape Words true) t
    ∷ given unicode (led_by (char "p") (property_value sets table false) t)
    ∷ given unicode (led_by (char "P") (property_value sets table true) t) ∷ [])

-- ---- ClassAtom

-- ClassControlLetter: DecimalDigit or `_`
abbrev pub is_class_control_letter : ℕ → Bool
is_class_control_letter c = is_decimal c || c == char "_"

-- `\` [lookahead = c]
abbrev pub backslash_before_c : Source → Found ClassAtom
backslash_before_c t = if is_at (char "c") t then Some (character (char "\\"), t) else None

module _ (table : Table) (unicode named : Bool) where
  -- ClassEscape
  abbrev pub class_escape_of : Source → Found ClassAtom
  class_escape_of t =
      first_of (
      terminal (char "b") (character 8) t
      ∷ given unicode (terminal (char "-") (character (char "-")) t)
      ∷ given (not unicode) (found_map character (led_by (char "c") (control_letter is_class_control_letter) t))
      ∷ character_class_escape unicode false table t
      ∷ found_map character (character_escape unicode named t) ∷ [])

  -- ClassAtomNoDash. B.1.2: no extension changes the syntax of patterns with [UnicodeMode].
  unfoldable pub class_atom_no_dash : Source → Found ClassAtom
  class_atom_no_dash t =
      first_of (
      found_map character (source_character_but unicode (is_one_of "\\]-") t)
      ∷ led_by (char "\\") class_escape_of t
      ∷ given (not unicode) (led_by (char "\\") backslash_before_c t) ∷ [])

  -- ClassAtom
  unfoldable pub class_atom : Source → Found ClassAtom
  class_atom t = first_of (terminal (char "-") (character (char "-")) t ∷ class_atom_no_dash t ∷ [])

  -- ---- ClassContents

  -- In what follows, the node is derived from t, and `rest` remains.

  -- NonemptyClassRanges and NonemptyClassRangesNoDash. In each, a range ends with ClassContents.
  abbrev mutual
    pub IsNonemptyClassRanges : ClassContents → (t rest : Source) → Type 0
    IsNonemptyClassRanges empty t rest = ⊥
    -- ClassAtom, or ClassAtom NonemptyClassRangesNoDash
    IsNonemptyClassRanges (atom_then a more) t rest =
        (u : Source) × (class_atom t ≡ Some (a, u)) × ((more ≡ empty) × (u ≡ rest) ⊎ IsNonemptyClassRangesNoDash more u rest)
    -- ClassAtom `-` ClassAtom ClassContents
    IsNonemptyClassRanges (range_then a b more) t rest =
        (u v : Source) × (class_atom t ≡ Some (a, char "-" ∷ u)) × (class_atom u ≡ Some (b, v))
        × ((more ≡ empty) × (v ≡ rest) ⊎ IsNonemptyClassRanges more v rest)
    IsNonemptyClassRanges (intersection left right) t rest = ⊥
    IsNonemptyClassRanges (subtraction left right) t rest = ⊥

    pub IsNonemptyClassRangesNoDash : ClassContents → (t rest : Source) → Type 0
    IsNonemptyClassRangesNoDash empty t rest = ⊥
    -- ClassAtom, or ClassAtomNoDash NonemptyClassRangesNoDash
    IsNonemptyClassRangesNoDash (atom_then a more) t rest =
        (u : Source)
        × ((class_atom t ≡ Some (a, u)) × (more ≡ empty) × (u ≡ rest)
        ⊎ (class_atom_no_dash t ≡ Some (a, u)) × IsNonemptyClassRangesNoDash more u rest)
    -- ClassAtomNoDash `-` ClassAtom ClassContents
    IsNonemptyClassRangesNoDash (range_then a b more) t rest =
        (u v : Source) × (class_atom_no_dash t ≡ Some (a, char "-" ∷ u)) × (class_atom u ≡ Some (b, v))
        × ((more ≡ empty) × (v ≡ rest) ⊎ IsNonemptyClassRanges more v rest)
    IsNonemptyClassRangesNoDash (intersection left right) t rest = ⊥
    IsNonemptyClassRangesNoDash (subtraction left right) t rest = ⊥

  -- ClassContents: nothing, or NonemptyClassRanges
  abbrev pub IsClassContents : ClassContents → (t rest : Source) → Type 0
  IsClassContents node t rest = (node ≡ empty) × (t ≡ rest) ⊎ IsNonemptyClassRanges node t rest

  -- CharacterClass: `[` [lookahead ≠ ^] ClassContents `]`, or `[^` ClassContents `]`
  abbrev pub IsCharacterClass : CharacterClass → (t rest : Source) → Type 0
  IsCharacterClass node t rest =
      (u : Source)
      × ((t ≡ char "[" ∷ u) × (is_at (char "^") u ≡ false) × (node.invert ≡ false)
      ⊎ (t ≡ char "[" ∷ char "^" ∷ u) × (node.invert ≡ true))
      × IsClassContents node.contents u (char "]" ∷ rest)

-- ---- early errors

-- 22.2.1.6 IsCharacterClass
abbrev pub is_character_class : ClassAtom → Bool
is_character_class (character c) = false
is_character_class other = true

-- 22.2.1.7 CharacterValue, of a character
abbrev pub character_value : ClassAtom → ℕ
character_value (character c) = c
character_value other = 0

-- ClassAtom `-` ClassAtom ClassContents: a set is an end, with [UnicodeMode]; or the first value is greater than the second.
abbrev pub is_wrong_range : (unicode : Bool) → (first last : ClassAtom) → Bool
is_wrong_range unicode first last =
    (is_character_class first || is_character_class last) && unicode
    || not (is_character_class first) && not (is_character_class last) && not (nat_le (character_value first) (character_value last))

abbrev pub has_early_error : (unicode : Bool) → ClassContents → Bool
has_early_error unicode empty = false
has_early_error unicode (atom_then a more) = has_early_error unicode more
has_early_error unicode (range_then a b more) = is_wrong_range unicode a b || has_early_error unicode more
has_early_error unicode (intersection left right) = false
has_early_error unicode (subtraction left right) = false

-- The source derives the class, without an early error.
abbrev pub IsAcceptedClass : Table → (unicode named : Bool) → CharacterClass → (t rest : Source) → Type 0
IsAcceptedClass table unicode named node t rest =
    IsCharacterClass table unicode named node t rest × (has_early_error unicode node.contents ≡ false)
