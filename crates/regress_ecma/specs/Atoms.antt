-- ECMA-262, 22.2.2.7 CompileAtom. The CharSet of a class is what the syntax tree has; in `CompiledClasses` that is what
-- CompileToCharSet returns. Numbers in comments are those of the clause's steps.
use Rattle.std.specs.Prelude.{ℕ, zero, suc, ◌+◌, Bool, false, not, ◌&&◌, ◌==◌, List, [], ◌∷◌, ◌++◌, length, filter, map, nat_lt, Option, if◌then◌else◌}
use Rattle.std.specs.List.{concat}
use Rattle.regress_base.specs.Classes.{line_terminators}
use Rattle.regress_base.specs.Intervals.{code_point_max, is_member, intervals_of}
use Rattle.regress_base.specs.Table.{Table}
use Rattle.regress_base.specs.declared.types.Flags.{Flags}
use Rattle.regress_tree.specs.Reading.{Direction}
use Rattle.regress_syntax.specs.Syntax.{Name, by_number, by_name, by_name_if_set, Atom, literal, dot, anchor, boundary, class_escape, class, class_set, string_property, back_reference, groups_named}
use Rattle.regress_ecma.specs.Notation.{CharSet, Matcher}
use Rattle.regress_ecma.specs.Characters.{all_characters, character_class_escape, character_complement}
use Rattle.regress_ecma.specs.Repetition.{empty_matcher, match_two_alternatives, match_sequence}
use Rattle.regress_ecma.specs.CharacterMatchers.{character_set_matcher, backreference_matcher}
use Rattle.regress_ecma.specs.Assertions.{compile_anchor, compile_boundary}

-- the set of one character
abbrev pub one_character : ℕ → CharSet
one_character ch = record { first = ch; last = ch } ∷ []

-- the set without the flag s: no line terminator is in it
abbrev pub without_line_terminators : CharSet
without_line_terminators =
    record { first = 0; last = 0x9 } ∷ record { first = 0xB; last = 0xC } ∷ record { first = 0xE; last = 0x2027 }
    ∷ record { first = 0x202A; last = code_point_max } ∷ []

-- the strings with fewer than n code points, in descending order of length
abbrev pub descending : ℕ → List (List ℕ) → List (List ℕ)
descending zero strings = []
descending (suc n) strings = filter (λ s. length s == n) strings ++ descending n strings

-- the matchers as alternatives, in order
abbrev pub alternatives : List Matcher → (last : Matcher) → Matcher
alternatives [] last = last
alternatives (m ∷ ms) last = match_two_alternatives m (alternatives ms last)

-- the singles of a property of strings
abbrev pub singles_of : List (List ℕ) → CharSet
singles_of [] = []
singles_of ([] ∷ strings) = singles_of strings
singles_of ((c ∷ []) ∷ strings) = record { first = c; last = c } ∷ singles_of strings
singles_of ((c ∷ d ∷ cs) ∷ strings) = singles_of strings

module _ (table : Table) where
  -- 22.2.2.7 CompileAtom, `.`, 1 and 2: its set
  abbrev pub dot_set : Flags → CharSet
  dot_set rer =
      if rer.dot_all then all_characters table rer
      else if rer.unicode_sets && rer.icase
      then intervals_of (λ c. is_member (all_characters table rer) c && not (is_member line_terminators c))
      else without_line_terminators

  -- 22.2.2.7 CompileAtom, CharacterClass, 6.a to 6.c: a string of a class, character by character
  abbrev pub string_matcher : Flags → Direction → List ℕ → Matcher
  string_matcher rer d [] = empty_matcher
  string_matcher rer d (c ∷ []) = character_set_matcher table rer (one_character c) false d
  string_matcher rer d (c1 ∷ c2 ∷ cs) =
      match_sequence (character_set_matcher table rer (one_character c1) false d) (string_matcher rer d (c2 ∷ cs)) d

  -- 22.2.2.7 CompileAtom, CharacterClass: strings of two or more code points, single ones, and the empty string
  abbrev pub compile_strings : Flags → Direction → List (List ℕ) → (singles : CharSet) → (has_empty : Bool) → Matcher
  compile_strings rer d strings singles has_empty =
      -- 7 and 8
      let single : Matcher = character_set_matcher table rer singles false d in
      -- 5 and 6, 10 to 12
      alternatives (map (string_matcher rer d) (descending (length (concat strings) + 1) strings))
      -- 9
      (if has_empty then match_two_alternatives single empty_matcher else single)

  -- 22.2.2.7 CompileAtom, and 22.2.2.8 CompileCharacterClass; 22.2.2.4 CompileAssertion without lookarounds. The names are
  -- those of all groups of the pattern.
  abbrev pub compile_atom : List (Option Name) → Flags → Direction → Atom → Matcher
  -- PatternCharacter, 1 to 3; CharacterEscape, 1 to 4
  compile_atom names rer d (literal flags ch) = character_set_matcher table rer (one_character ch) false d
  -- `.`, 1 to 3
  compile_atom names rer d (dot flags) = character_set_matcher table rer (dot_set rer) false d
  compile_atom names rer d (anchor flags kind) = compile_anchor rer kind
  compile_atom names rer d (boundary flags inverted) = compile_boundary table rer inverted
  -- CharacterClassEscape, 1 and 2
  compile_atom names rer d (class_escape flags kind negated) =
      character_set_matcher table rer (character_class_escape table rer kind negated) false d
  -- CharacterClass, 1 to 3
  compile_atom names rer d (class flags inverted members) = character_set_matcher table rer members inverted d
  -- CharacterClass, 1 to 12; with the flag v 22.2.2.8 takes the complement
  compile_atom names rer d (class_set flags negated value) =
      if negated then character_set_matcher table rer (character_complement table rer value.members) false d
      else compile_strings rer d value.strings value.members value.has_empty
  -- CharacterClassEscape, 1 and from 3 on
  compile_atom names rer d (string_property flags written) =
      compile_strings rer d (filter (λ s. nat_lt 1 (length s)) written) (singles_of written) false
  -- DecimalEscape, 1 to 3
  compile_atom names rer d (back_reference flags (by_number n)) = backreference_matcher table rer (n ∷ []) d
  -- `\k`, 1 to 4
  compile_atom names rer d (back_reference flags (by_name name)) = backreference_matcher table rer (groups_named name 1 names) d
  compile_atom names rer d (back_reference flags (by_name_if_set name)) = backreference_matcher table rer (groups_named name 1 names) d
