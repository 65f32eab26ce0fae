-- ECMA-262, 22.2.1 and B.1.2: which parse node the source of a class has. It is that of the grammar in `ClassProductions` and
-- `ClassSets` of `regress_classes`, wherever that accepts a class. Where a pattern is parsed as code units (ParsePattern), a
-- code point above U+FFFF is two characters of a class without the flag v.
use Rattle.std.specs.Prelude.{ℕ, zero, suc, ◌+◌, Bool, true, false, not, ◌&&◌, ◌||◌, List, [], ◌∷◌, length, drop, Some, None, if◌then◌else◌, nat_le, ◌==◌}
use Rattle.regress_base.specs.Limits.{max_nesting_depth}
use Rattle.regress_base.specs.Table.{Table}
use Rattle.regress_lexer.specs.Source.{Source, Found, ◌>>=◌, found_map, Production, when, otherwise, first_production, char, is_one_of, is_at}
use Rattle.regress_lexer.specs.Digits.{is_decimal, is_letter, control}
use Rattle.regress_lexer.specs.Dialects.{reserves_k, isolates_ampersand}
use Rattle.regress_lexer.specs.Escapes.{character_escape_at, lead_surrogate, trail_surrogate}
use Rattle.regress_classes.specs.declared.parameters.Parameters.{Parameters}
use Rattle.regress_classes.specs.ClassProductions.{class_letter, begins_range, splits}
use Rattle.regress_classes.specs.ClassSets.{escaped_character_at, set_character_at, strings_by, are_at}
use Rattle.regress_classes.specs.Properties.{Property, of_points, of_strings, property_at}
use Rattle.regress_ecma.specs.ClassNodes.{ClassAtom, character, class_escape, property, string_property, class_strings, nested_class, ClassContents, empty, atom_then, range_then, intersection, subtraction, CharacterClass}

-- `\p` or `\P`
abbrev pub property_node : (capital : Bool) → Property → ClassAtom
property_node capital (of_points members) = property members capital
property_node capital (of_strings members) = string_property members

-- ---- without the flag v

-- `\c`: with a letter, a digit or `_` a control character; else a literal backslash
abbrev pub control_at : Source → Found ClassAtom
control_at [] = Some (character (char "\\"), char "c" ∷ [])
control_at (d ∷ t) =
    if is_letter d || is_decimal d || d == char "_" then Some (character (control d), t)
    else Some (character (char "\\"), char "c" ∷ d ∷ t)

-- whether the atom is a character above U+FFFF
abbrev pub is_pair : ClassAtom → Bool
is_pair (character c) = nat_le 0x10000 c
is_pair other = false

-- the surrogates of such a character
abbrev pub lead : ClassAtom → ClassAtom
lead (character c) = character (lead_surrogate c)
lead other = other

abbrev pub trail : ClassAtom → ClassAtom
trail (character c) = character (trail_surrogate c)
trail other = other

module _ (table : Table) (parameters : Parameters) where
  -- ClassEscape and CharacterEscape, from c on
  abbrev pub escape_productions : ℕ → Source → List (Production ClassAtom)
  escape_productions c t =
      when (c == char "b") (Some (character 8, t))
      ∷ when (c == char "-" && parameters.unicode) (Some (character (char "-"), t))
      ∷ when (c == char "c" && not parameters.unicode) (control_at t)
      ∷ when (is_one_of "pP" c && parameters.unicode) (found_map (property_node (c == char "P")) (property_at false table t))
      -- IdentityEscape, SourceCharacterIdentityEscape with NamedCaptureGroups
      ∷ when (c == char "k" && parameters.named && reserves_k parameters.dialect) None
      ∷ otherwise (found_map character (character_escape_at parameters.dialect parameters.unicode (c ∷ t))) ∷ []

  -- after a backslash
  abbrev pub class_escape_at : Source → Found ClassAtom
  class_escape_at [] = None
  class_escape_at (c ∷ t) =
      elim (class_letter c) [
        | None ↦ first_production (escape_productions c t)
        | Some named ↦ Some (class_escape named.0 named.1, t)
      ]

  -- ClassAtom
  abbrev pub class_atom_at : Source → Found ClassAtom
  class_atom_at [] = None
  class_atom_at (c ∷ t) =
      if c == char "]" then None
      else if c == char "\\" then class_escape_at t
      else Some (character c, t)

  -- the atom is two characters
  abbrev pub is_split : ClassAtom → Bool
  is_split atom = splits parameters && is_pair atom

  -- its first character and its last one
  abbrev pub first_of : ClassAtom → ClassAtom
  first_of atom = if is_split atom then lead atom else atom

  abbrev pub last_of : ClassAtom → ClassAtom
  last_of atom = if is_split atom then trail atom else atom

  -- the characters before its last one, and after its first one, and the rest
  abbrev pub with_before : ClassAtom → ClassContents → ClassContents
  with_before atom rest = if is_split atom then atom_then (lead atom) rest else rest

  abbrev pub with_after : ClassAtom → ClassContents → ClassContents
  with_after atom rest = if is_split atom then atom_then (trail atom) rest else rest

  -- an atom, a range, and one whose last character begins another one
  abbrev pub with_atom : ClassAtom → ClassContents → ClassContents
  with_atom atom rest = with_before atom (atom_then (last_of atom) rest)

  abbrev pub with_range : (first last : ClassAtom) → ClassContents → ClassContents
  with_range first last rest = with_before first (range_then (last_of first) (first_of last) (with_after last rest))

  abbrev pub with_ranges : (first last next : ClassAtom) → ClassContents → ClassContents
  with_ranges first last next rest =
      with_before first (range_then (last_of first) (first_of last) (range_then (last_of last) (first_of next) (with_after next rest)))

  -- the rest of a range, after its first atom and the hyphen
  abbrev pub range_at : ClassAtom → Source → Found (ClassContents → ClassContents)
  range_at first t =
      class_atom_at t >>= λ (last, rest).
      (if is_split last && begins_range rest
      then found_map (λ next contents. with_ranges first last next contents) (class_atom_at (drop 1 rest))
      else Some (λ contents. with_range first last contents, rest))

  -- an atom or a range, as what it makes of the rest
  abbrev pub class_part_at : Source → Found (ClassContents → ClassContents)
  class_part_at t =
      class_atom_at t >>= λ (first, rest).
      (if begins_range rest then range_at first (drop 1 rest) else Some (λ contents. with_atom first contents, rest))

  -- NonemptyClassRanges, up to `]`. The number bounds the number of parts.
  unfoldable pub class_ranges_by : ℕ → Source → Found ClassContents
  class_ranges_by zero t = None
  class_ranges_by (suc n) t =
      if is_at (char "]") t then Some (empty, drop 1 t)
      else class_part_at t >>= λ (with_part, rest). found_map with_part (class_ranges_by n rest)

-- ---- with the flag v

module _ (table : Table) (parameters : Parameters) where
  -- ClassStringDisjunction, after `\q`
  abbrev pub class_strings_at : Source → Found ClassAtom
  class_strings_at t =
      if is_at (char "{") t then found_map class_strings (strings_by (length t) parameters [] (drop 1 t)) else None

  -- an escape from c on
  abbrev pub operand_productions : ℕ → Source → List (Production ClassAtom)
  operand_productions c t =
      when (c == char "q") (class_strings_at t)
      ∷ when (is_one_of "pP" c) (found_map (property_node (c == char "P")) (property_at true table t))
      ∷ otherwise (found_map character (escaped_character_at parameters.unicode (c ∷ t))) ∷ []

  -- after a backslash
  abbrev pub escaped_operand_at : Source → Found ClassAtom
  escaped_operand_at [] = None
  escaped_operand_at (c ∷ t) =
      elim (class_letter c) [
        | Some named ↦ Some (class_escape named.0 named.1, t)
        | None ↦ first_production (operand_productions c t)
      ]

  -- In what follows, `inner` has the parse node of a class after its `[`.
  module _ (inner : Source → Found CharacterClass) where
    -- ClassSetOperand
    unfoldable pub operand_at : Source → Found ClassAtom
    operand_at t =
        if is_at (char "[") t then found_map (λ node. nested_class node.invert node.contents) (inner (drop 1 t))
        else if is_at (char "\\") t then escaped_operand_at (drop 1 t)
        else found_map character (set_character_at parameters t)

    -- an operand or a ClassSetRange, from its first operand on
    abbrev pub part_after : ClassAtom × Source → Found (ClassContents → ClassContents)
    part_after (first, t) =
        if is_at (char "-") t then found_map (λ last contents. range_then first last contents) (operand_at (drop 1 t)) else Some (atom_then first, t)

    -- ClassUnion, up to `]`. The number bounds the number of parts.
    unfoldable pub class_union_by : ℕ → Source → Found ClassContents
    class_union_by zero t = None
    class_union_by (suc n) t =
        if is_at (char "]") t then Some (empty, drop 1 t)
        else operand_at t >>= part_after >>= λ (with_part, rest). found_map with_part (class_union_by n rest)

    abbrev pub class_union_at : Source → Found ClassContents
    class_union_at t = class_union_by (length t + 1) t

    -- ClassIntersection or ClassSubtraction, after an operator that is c twice, up to `]`. The number bounds the number of
    -- operands.
    unfoldable pub operands_by : ℕ → (c : ℕ) → (ClassContents → ClassAtom → ClassContents) → (left : ClassContents) → Source →
        Found ClassContents
    operands_by zero c operator left t = None
    operands_by (suc n) c operator left t =
        operand_at t >>= λ (right, rest).
        (if is_at (char "]") rest then Some (operator left right, drop 1 rest)
        else if are_at c rest then operands_by n c operator (operator left right) (drop 2 rest)
        else None)

    -- ClassSetExpression, after its first operand
    abbrev pub contents_after : ClassAtom × Source → Found ClassContents
    contents_after (first, t) =
        if are_at (char "&") t
        then operands_by (length (drop 2 t) + 1) (char "&") intersection (atom_then first empty) (drop 2 t)
        else if are_at (char "-") t
        then operands_by (length (drop 2 t) + 1) (char "-") subtraction (atom_then first empty) (drop 2 t)
        else if is_at (char "&") t && isolates_ampersand parameters.dialect
        then found_map (λ rest. atom_then first (atom_then (character (char "&")) rest)) (class_union_at (drop 1 t))
        else part_after (first, t) >>= λ (with_part, rest). found_map with_part (class_union_at rest)

    -- ClassContents, up to `]`
    abbrev pub contents_at : Source → Found ClassContents
    contents_at t = if is_at (char "]") t then Some (empty, drop 1 t) else operand_at t >>= contents_after

  -- CharacterClass, after its `[`. The number bounds how deep classes nest.
  unfoldable pub class_set_by : ℕ → Source → Found CharacterClass
  class_set_by zero t = None
  class_set_by (suc n) t =
      let invert = is_at (char "^") t in
      found_map (λ contents. record { invert = invert; contents = contents })
      (contents_at (class_set_by n) (if invert then drop 1 t else t))

-- CharacterClass, after its `[`
unfoldable pub character_class_at : Table → Parameters → (sets : Bool) → Source → Found CharacterClass
character_class_at table parameters sets t =
    let invert = is_at (char "^") t in
    let inside = if invert then drop 1 t else t in
    if sets then class_set_by table parameters max_nesting_depth t
    else found_map (λ contents. record { invert = invert; contents = contents })
    (class_ranges_by table parameters (length inside + 1) inside)
