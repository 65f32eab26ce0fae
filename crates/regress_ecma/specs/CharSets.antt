-- ECMA-262, 22.2.2.8 CompileCharacterClass, 22.2.2.9 CompileToCharSet and 22.2.2.10 CompileClassSetString. With the flag v
-- the elements of a CharSet are sequences of characters. Numbers in comments are those of the clause's steps.
use Rattle.std.specs.Prelude.{ℕ, Bool, false, true, not, ◌&&◌, ◌||◌, List, [], ◌∷◌, ◌++◌, map, filter, Option, Some, None, if◌then◌else◌}
use Rattle.regress_base.specs.Intervals.{is_member, intervals_of}
use Rattle.regress_base.specs.Table.{Table}
use Rattle.regress_base.specs.declared.types.Flags.{Flags}
use Rattle.regress_lexer.specs.Source.{char}
use Rattle.regress_classes.specs.ClassSets.{is_among}
use Rattle.regress_syntax.specs.Syntax.{Atom, class, class_set}
use Rattle.regress_ecma.specs.Notation.{CharSet}
use Rattle.regress_ecma.specs.Characters.{maybe_simple_case_folding as fold_characters, character_complement, character_class_escape}
use Rattle.regress_ecma.specs.Atoms.{one_character}
use Rattle.regress_ecma.specs.ClassNodes.{ClassAtom, character, class_escape, property, string_property, class_strings, nested_class, ClassContents, empty, atom_then, range_then, intersection, subtraction, CharacterClass}

-- The elements of a CharSet: characters, strings of two or more characters, and whether the empty string is one.
pub record Elements : Type 0 where
  pub characters : CharSet
  pub strings : List (List ℕ)
  pub has_empty : Bool

abbrev pub no_elements : Elements
no_elements = record { characters = []; strings = []; has_empty = false }

-- these characters alone
abbrev pub only : CharSet → Elements
only set = record no_elements { characters = set }

abbrev pub union : Elements → Elements → Elements
union a b = record {
  characters = a.characters ++ b.characters;
  strings = a.strings ++ b.strings;
  has_empty = a.has_empty || b.has_empty;
}

-- the elements that both have
abbrev pub in_both : Elements → Elements → Elements
in_both a b = record {
  characters = intervals_of (λ c. is_member a.characters c && is_member b.characters c);
  strings = filter (is_among b.strings) a.strings;
  has_empty = a.has_empty && b.has_empty;
}

-- the elements of the first that are not elements of the second
abbrev pub in_first_only : Elements → Elements → Elements
in_first_only a b = record {
  characters = intervals_of (λ c. is_member a.characters c && not (is_member b.characters c));
  strings = filter (λ s. not (is_among b.strings s)) a.strings;
  has_empty = a.has_empty && not b.has_empty;
}

-- 22.2.2.10 CompileClassSetString, and 2 of ClassStringDisjunctionContents: the CharSet of one string
abbrev pub one_string : List ℕ → Elements
one_string [] = record no_elements { has_empty = true }
one_string (c ∷ []) = only (one_character c)
one_string (c ∷ d ∷ cs) = record no_elements { strings = (c ∷ d ∷ cs) ∷ [] }

-- ClassStringDisjunctionContents, 1 to 4
abbrev pub each_string : List (List ℕ) → Elements
each_string [] = no_elements
each_string (s ∷ strings) = union (one_string s) (each_string strings)

-- 22.2.2.9.1 CharacterRange, 7
abbrev pub character_range : (first last : ℕ) → CharSet
character_range first last = record { first = first; last = last } ∷ []

-- the one character of an atom, if that has one; a class escape has more
abbrev pub character_of : ClassAtom → Option ℕ
character_of (character c) = Some c
character_of other = None

-- B.1.2.8.1 CharacterRangeOrUnion, of the atoms' CharSets a and b
abbrev pub range_or_union : (a b : Elements) → Option ℕ → Option ℕ → Elements
-- 1.a
range_or_union a b None last = union a (union (only (one_character (char "-"))) b)
range_or_union a b (Some first) None = union a (union (only (one_character (char "-"))) b)
-- 2
range_or_union a b (Some first) (Some last) = only (character_range first last)

module _ (table : Table) (rer : Flags) where
  -- 22.2.2.9.5 MaybeSimpleCaseFolding: 2 to 4, or 1
  abbrev pub maybe_simple_case_folding : Elements → Elements
  maybe_simple_case_folding a =
      if rer.unicode_sets && rer.icase
      then record a { characters = fold_characters table rer a.characters; strings = map (map table.fold) a.strings }
      else a

  -- 22.2.2.9.6 CharacterComplement: 1 and 2
  abbrev pub complement : Elements → Elements
  complement a = only (character_complement table rer a.characters)

  -- 22.2.2.9 CompileToCharSet
  abbrev mutual
    -- of ClassAtom and ClassEscape, and of ClassSetOperand
    pub atom_to_char_set : ClassAtom → Elements
    -- ClassAtom and ClassEscape, 1 to 3; ClassSetOperand, ClassSetCharacter, 1 and 2
    atom_to_char_set (character c) = maybe_simple_case_folding (only (one_character c))
    -- CharacterClassEscape
    atom_to_char_set (class_escape kind capital) = only (character_class_escape table rer kind capital)
    -- `p{`, 1, and `P{`, 1 to 3; the folding is the last step of UnicodePropertyValueExpression
    atom_to_char_set (property members capital) =
        if capital then complement (maybe_simple_case_folding (only members)) else maybe_simple_case_folding (only members)
    atom_to_char_set (string_property members) = maybe_simple_case_folding (each_string members)
    -- ClassSetOperand, ClassStringDisjunction, 1 and 2
    atom_to_char_set (class_strings strings) = maybe_simple_case_folding (each_string strings)
    -- NestedClass, 1, and inverted 1 and 2
    atom_to_char_set (nested_class invert contents) =
        if invert then complement (compile_to_char_set contents) else compile_to_char_set contents

    -- of ClassContents
    pub compile_to_char_set : ClassContents → Elements
    -- the empty ClassContents, 1
    compile_to_char_set empty = no_elements
    -- NonemptyClassRanges, 1 to 3; ClassUnion, 1 to 3
    compile_to_char_set (atom_then first rest) = union (atom_to_char_set first) (compile_to_char_set rest)
    -- NonemptyClassRanges, 1 to 5, with 4 of annex B; ClassSetRange, 1 to 3, in ClassUnion
    compile_to_char_set (range_then first last rest) =
        union
        (maybe_simple_case_folding
        (range_or_union (atom_to_char_set first) (atom_to_char_set last) (character_of first) (character_of last)))
        (compile_to_char_set rest)
    -- ClassIntersection, 1 to 3
    compile_to_char_set (intersection left right) = in_both (compile_to_char_set left) (atom_to_char_set right)
    -- ClassSubtraction, 1 to 3
    compile_to_char_set (subtraction left right) = in_first_only (compile_to_char_set left) (atom_to_char_set right)

  -- the class of the syntax tree with these elements
  abbrev pub class_of : Elements → Atom
  class_of a = class_set rer false (record { members = a.characters; strings = a.strings; has_empty = a.has_empty; may_have_strings = false; nesting = 0 })

  -- 22.2.2.8 CompileCharacterClass: with the flag v the complement is taken, without it the matcher inverts.
  abbrev pub compile_character_class : CharacterClass → Atom
  compile_character_class node =
      -- 1
      let a : Elements = compile_to_char_set node.contents in
      -- 2 and 3
      if rer.unicode_sets then class_of (if node.invert then complement a else a) else class rer node.invert a.characters
