-- ECMA-262 (2025), 22.2.1 Patterns: CharacterClass with the flag v (ClassSetExpression), its early errors (22.2.1.1) and
-- MayContainStrings (22.2.1.8). The flag v implies [UnicodeMode]. `named` is the parameter [NamedCaptureGroups].
use Rattle.std.specs.Prelude.{◌≡◌, ℕ, ◌+◌, max, Bool, true, false, not, ◌&&◌, ◌||◌, List, [], ◌∷◌, length, ◌⊎◌, Some, None, IsTrue, if◌then◌else◌, nat_le, ◌==◌}
use Rattle.std.specs.List.{list_any, list_all}
use Rattle.regress_base.specs.Table.{Table}
use Rattle.regress_lexer.specs.Source.{Source, Found, char, is_one_of, is_at}
use Rattle.regress_ecma.specs.CharacterEscapes.{first_of, terminal, led_by, one_such, source_character_but, character_escape}
use Rattle.regress_ecma.specs.ClassRanges.{character_class_escape}
use Rattle.regress_ecma.specs.ClassNodes.{ClassAtom, character, class_escape, property, string_property, class_strings, nested_class, ClassContents, empty, atom_then, range_then, intersection, subtraction, CharacterClass}

-- ---- characters

-- ClassSetSyntaxCharacter
abbrev pub is_class_set_syntax_character : ℕ → Bool
is_class_set_syntax_character = is_one_of "()[]{}/-\\|"

-- the character of which ClassSetReservedDoublePunctuator is two
abbrev pub is_doubled_punctuator : ℕ → Bool
is_doubled_punctuator = is_one_of "&!#$%*+,.:;<=>?@^`~"

-- ClassSetReservedDoublePunctuator
abbrev pub begins_reserved_double : Source → Bool
begins_reserved_double [] = false
begins_reserved_double (c ∷ t) = is_doubled_punctuator c && is_at c t

-- ClassSetReservedPunctuator
abbrev pub is_class_set_reserved_punctuator : ℕ → Bool
is_class_set_reserved_punctuator = is_one_of "&-!#%,:;<=>@`~"

module _ (table : Table) (named : Bool) where
  -- ClassSetCharacter
  unfoldable pub class_set_character : Source → Found ℕ
  class_set_character t =
      first_of (
      (if begins_reserved_double t then None else source_character_but true is_class_set_syntax_character t)
      ∷ led_by (char "\\") (character_escape true named) t
      ∷ led_by (char "\\") (one_such is_class_set_reserved_punctuator) t
      ∷ led_by (char "\\") (terminal (char "b") 8) t ∷ [])

  -- In what follows, the node is derived from t, and `rest` remains.

  -- ClassString: nothing, or ClassSetCharacter and what follows it (NonEmptyClassString)
  abbrev pub IsClassString : List ℕ → (t rest : Source) → Type 0
  IsClassString [] t rest = t ≡ rest
  IsClassString (c ∷ cs) t rest = (u : Source) × (class_set_character t ≡ Some (c, u)) × IsClassString cs u rest

  -- ClassStringDisjunctionContents: ClassString, or ClassString `|` ClassStringDisjunctionContents
  abbrev pub AreClassStrings : List (List ℕ) → (t rest : Source) → Type 0
  AreClassStrings [] t rest = ⊥
  AreClassStrings (s ∷ ss) t rest =
      (ss ≡ []) × IsClassString s t rest ⊎ ((u : Source) × IsClassString s t (char "|" ∷ u) × AreClassStrings ss u rest)

  -- ClassSetRange
  abbrev pub IsClassSetRange : (first last : ClassAtom) → (t rest : Source) → Type 0
  IsClassSetRange (character a) (character b) t rest =
      (u : Source) × (class_set_character t ≡ Some (a, char "-" ∷ u)) × (class_set_character u ≡ Some (b, rest))
  IsClassSetRange first last t rest = ⊥

  -- after the `[` or `[^` that begins a class
  abbrev pub IsOpened : (invert : Bool) → (t rest : Source) → Type 0
  IsOpened false t rest = (t ≡ char "[" ∷ rest) × (is_at (char "^") rest ≡ false)
  IsOpened true t rest = t ≡ char "[" ∷ char "^" ∷ rest

  -- `\` CharacterClassEscape
  abbrev pub IsClassEscape : ClassAtom → (t rest : Source) → Type 0
  IsClassEscape node t rest = led_by (char "\\") (character_class_escape true true table) t ≡ Some (node, rest)

  abbrev mutual
    -- ClassSetOperand: NestedClass, ClassStringDisjunction or ClassSetCharacter
    pub IsClassSetOperand : ClassAtom → (t rest : Source) → Type 0
    IsClassSetOperand (character c) t rest = class_set_character t ≡ Some (c, rest)
    IsClassSetOperand (class_escape kind capital) t rest = IsClassEscape (class_escape kind capital) t rest
    IsClassSetOperand (property members capital) t rest = IsClassEscape (property members capital) t rest
    IsClassSetOperand (string_property strings) t rest = IsClassEscape (string_property strings) t rest
    IsClassSetOperand (class_strings strings) t rest =
        (u : Source) × (t ≡ char "\\" ∷ char "q" ∷ char "{" ∷ u) × AreClassStrings strings u (char "}" ∷ rest)
    IsClassSetOperand (nested_class invert contents) t rest =
        (u : Source) × IsOpened invert t u
        × ((contents ≡ empty) × (u ≡ char "]" ∷ rest)
        ⊎ (IsClassUnion contents u (char "]" ∷ rest)
        ⊎ (IsClassIntersection contents u (char "]" ∷ rest) ⊎ IsClassSubtraction contents u (char "]" ∷ rest))))

    -- ClassUnion: ClassSetRange or ClassSetOperand, and ClassUnion or nothing
    pub IsClassUnion : ClassContents → (t rest : Source) → Type 0
    IsClassUnion empty t rest = ⊥
    IsClassUnion (atom_then a more) t rest =
        (u : Source) × IsClassSetOperand a t u × ((more ≡ empty) × (u ≡ rest) ⊎ IsClassUnion more u rest)
    IsClassUnion (range_then a b more) t rest =
        (u : Source) × IsClassSetRange a b t u × ((more ≡ empty) × (u ≡ rest) ⊎ IsClassUnion more u rest)
    IsClassUnion (intersection left right) t rest = ⊥
    IsClassUnion (subtraction left right) t rest = ⊥

    -- one ClassSetOperand, on the left of an operator
    pub IsFirstOperand : ClassContents → (t rest : Source) → Type 0
    IsFirstOperand empty t rest = ⊥
    IsFirstOperand (atom_then a more) t rest = (more ≡ empty) × IsClassSetOperand a t rest
    IsFirstOperand (range_then a b more) t rest = ⊥
    IsFirstOperand (intersection left right) t rest = ⊥
    IsFirstOperand (subtraction left right) t rest = ⊥

    -- ClassSetOperand or ClassIntersection, `&&` [lookahead ≠ &] ClassSetOperand
    pub IsClassIntersection : ClassContents → (t rest : Source) → Type 0
    IsClassIntersection empty t rest = ⊥
    IsClassIntersection (atom_then a more) t rest = ⊥
    IsClassIntersection (range_then a b more) t rest = ⊥
    IsClassIntersection (intersection left right) t rest =
        (u : Source)
        × (IsFirstOperand left t (char "&" ∷ char "&" ∷ u) ⊎ IsClassIntersection left t (char "&" ∷ char "&" ∷ u))
        × (is_at (char "&") u ≡ false) × IsClassSetOperand right u rest
    IsClassIntersection (subtraction left right) t rest = ⊥

    -- ClassSetOperand or ClassSubtraction, `--` ClassSetOperand
    pub IsClassSubtraction : ClassContents → (t rest : Source) → Type 0
    IsClassSubtraction empty t rest = ⊥
    IsClassSubtraction (atom_then a more) t rest = ⊥
    IsClassSubtraction (range_then a b more) t rest = ⊥
    IsClassSubtraction (intersection left right) t rest = ⊥
    IsClassSubtraction (subtraction left right) t rest =
        (u : Source)
        × (IsFirstOperand left t (char "-" ∷ char "-" ∷ u) ⊎ IsClassSubtraction left t (char "-" ∷ char "-" ∷ u))
        × IsClassSetOperand right u rest

  -- ClassContents: nothing, or ClassSetExpression, which is ClassUnion, ClassIntersection or ClassSubtraction
  abbrev pub IsClassContents : ClassContents → (t rest : Source) → Type 0
  IsClassContents node t rest =
      (node ≡ empty) × (t ≡ rest)
      ⊎ (IsClassUnion node t rest ⊎ (IsClassIntersection node t rest ⊎ IsClassSubtraction node t rest))

  -- CharacterClass
  abbrev pub IsCharacterClass : CharacterClass → (t rest : Source) → Type 0
  IsCharacterClass node t rest = (u : Source) × IsOpened node.invert t u × IsClassContents node.contents u (char "]" ∷ rest)

-- ---- MayContainStrings

-- ClassString is empty, or has more than one ClassSetCharacter.
abbrev pub is_string : List ℕ → Bool
is_string s = not (length s == 1)

abbrev mutual
  pub operand_may_contain_strings : ClassAtom → Bool
  operand_may_contain_strings (character c) = false
  operand_may_contain_strings (class_escape kind capital) = false
  operand_may_contain_strings (property members capital) = false
  operand_may_contain_strings (string_property strings) = true
  operand_may_contain_strings (class_strings strings) = list_any is_string strings
  -- `[^` ClassContents `]`: false
  operand_may_contain_strings (nested_class invert contents) = not invert && may_contain_strings contents

  pub may_contain_strings : ClassContents → Bool
  may_contain_strings empty = false
  may_contain_strings (atom_then a more) = operand_may_contain_strings a || may_contain_strings more
  may_contain_strings (range_then a b more) = may_contain_strings more
  may_contain_strings (intersection left right) = may_contain_strings left && operand_may_contain_strings right
  may_contain_strings (subtraction left right) = may_contain_strings left

-- MayContainStrings is true of each property of strings, by its name. Each of Unicode has a string that is not one character;
-- a table need not have it so.
abbrev pub HasPropertiesOfStrings : Table → Type 0
HasPropertiesOfStrings table = IsTrue (list_all (λ entry. list_any is_string entry.value) table.strings)

-- ---- early errors

-- ClassSetRange: the first value is greater than the second.
abbrev pub is_wrong_set_range : (first last : ClassAtom) → Bool
is_wrong_set_range (character a) (character b) = not (nat_le a b)
is_wrong_set_range first last = false

abbrev mutual
  pub operand_has_early_error : ClassAtom → Bool
  operand_has_early_error (character c) = false
  operand_has_early_error (class_escape kind capital) = false
  operand_has_early_error (property members capital) = false
  operand_has_early_error (string_property strings) = false
  operand_has_early_error (class_strings strings) = false
  -- `[^` ClassContents `]`: MayContainStrings of ClassContents
  operand_has_early_error (nested_class invert contents) = invert && may_contain_strings contents || contents_have_early_error contents

  pub contents_have_early_error : ClassContents → Bool
  contents_have_early_error empty = false
  contents_have_early_error (atom_then a more) = operand_has_early_error a || contents_have_early_error more
  contents_have_early_error (range_then a b more) = is_wrong_set_range a b || contents_have_early_error more
  contents_have_early_error (intersection left right) = contents_have_early_error left || operand_has_early_error right
  contents_have_early_error (subtraction left right) = contents_have_early_error left || operand_has_early_error right

-- CharacterClass, with the same error as a nested one
abbrev pub has_early_error : CharacterClass → Bool
has_early_error node = node.invert && may_contain_strings node.contents || contents_have_early_error node.contents

-- The source derives the class, without an early error.
abbrev pub IsAcceptedClassSet : Table → (named : Bool) → CharacterClass → (t rest : Source) → Type 0
IsAcceptedClassSet table named node t rest = IsCharacterClass table named node t rest × (has_early_error node ≡ false)

-- ---- the limit on nesting

abbrev mutual
  pub depth_of_operand : ClassAtom → ℕ
  depth_of_operand (character c) = 0
  depth_of_operand (class_escape kind capital) = 0
  depth_of_operand (property members capital) = 0
  depth_of_operand (string_property strings) = 0
  depth_of_operand (class_strings strings) = 0
  depth_of_operand (nested_class invert contents) = 1 + depth contents

  -- how deep the classes in a class nest
  pub depth : ClassContents → ℕ
  depth empty = 0
  depth (atom_then a more) = max (depth_of_operand a) (depth more)
  depth (range_then a b more) = depth more
  depth (intersection left right) = max (depth left) (depth_of_operand right)
  depth (subtraction left right) = max (depth left) (depth_of_operand right)
