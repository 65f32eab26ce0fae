-- ECMA-262, 22.2.2.7.3, 22.2.2.7.4 and 22.2.2.9: canonical forms, modifiers, and sets of characters. The fields of a RegExp
-- Record that flags give are those of `Flags`. Numbers in comments are those of the clause's steps.
use Rattle.std.specs.Prelude.{ℕ, Bool, not, ◌&&◌, ◌||◌, ◌==◌, nat_le, nat_lt, [], ◌∷◌, ◌++◌, Option, Some, None, if◌then◌else◌}
use Rattle.std.specs.List.{list_any}
use Rattle.regress_base.specs.Classes.{digits, white_space, line_terminators, word_characters as basic_word_characters}
use Rattle.regress_base.specs.Intervals.{code_point_max, is_member, intervals_of}
use Rattle.regress_base.specs.Listing.{code_points}
use Rattle.regress_base.specs.Table.{Table}
use Rattle.regress_base.specs.declared.charclasses.CharacterClassType.{CharacterClassType}
use Rattle.regress_base.specs.declared.charclasses.CharacterClassType.TheVariants.{Digits, Spaces, Words}
use Rattle.regress_base.specs.declared.types.Flags.{Flags}
use Rattle.regress_lexer.specs.Modifiers.{Change}
use Rattle.regress_ecma.specs.Notation.{CharSet}

-- 22.2.2.9.2 HasEitherUnicodeFlag
abbrev pub has_either_unicode_flag : Flags → Bool
has_either_unicode_flag rer = rer.unicode || rer.unicode_sets

-- an optional new value of a flag
abbrev pub switched : Option Bool → Bool → Bool
switched None old = old
switched (Some new) old = new

-- 22.2.2.7.4 UpdateModifiers
abbrev pub update_modifiers : Flags → Change → Flags
update_modifiers rer change = record rer {
  -- 8 to 13
  icase = switched change.icase rer.icase;
  multiline = switched change.multiline rer.multiline;
  dot_all = switched change.dot_all rer.dot_all;
}

-- some member of the set passes the test
abbrev pub has_some : (ℕ → Bool) → CharSet → Bool
has_some test set = list_any (λ interval. list_any test (code_points interval)) set

module _ (table : Table) (rer : Flags) where
  -- 22.2.2.7.3 Canonicalize, 4 to 10. 5 to 8 are the table's. No character outside of ASCII becomes one of ASCII: 9.
  abbrev pub upper_case : ℕ → ℕ
  upper_case ch = let cu = table.uppercase ch in if nat_le 128 ch && nat_lt cu 128 then ch else cu

  -- 22.2.2.7.3 Canonicalize
  abbrev pub canonicalize : ℕ → ℕ
  canonicalize ch =
      -- 1
      if has_either_unicode_flag rer && rer.icase then table.fold ch
      -- 2
      else if not rer.icase then ch
      -- 3 to 10
      else upper_case ch

  -- 22.2.2.9.4 AllCharacters: 1, and 2 in every mode
  abbrev pub all_characters : CharSet
  all_characters =
      if rer.unicode_sets && rer.icase
      then intervals_of (λ c. table.fold c == c)
      else record { first = 0; last = code_point_max } ∷ []

  -- 22.2.2.9.5 MaybeSimpleCaseFolding, of single characters: 2 to 4, or 1
  abbrev pub maybe_simple_case_folding : CharSet → CharSet
  maybe_simple_case_folding set =
      if rer.unicode_sets && rer.icase then intervals_of (λ c. has_some (λ ch. table.fold ch == c) set) else set

  -- 22.2.2.9.6 CharacterComplement: 1 and 2
  abbrev pub character_complement : CharSet → CharSet
  character_complement set = intervals_of (λ c. is_member all_characters c && not (is_member set c))

  -- 22.2.2.9.3 WordCharacters, 2: the extra ones
  abbrev pub is_extra_word_character : ℕ → Bool
  is_extra_word_character c = not (is_member basic_word_characters c) && is_member basic_word_characters (canonicalize c)

  -- 22.2.2.9.3 WordCharacters: 1 to 4. Without the flag i there are no extra ones.
  abbrev pub word_characters : CharSet
  word_characters =
      if rer.icase then basic_word_characters ++ intervals_of is_extra_word_character else basic_word_characters

  -- 22.2.2.9 CompileToCharSet: CharacterClassEscape, for a small letter: 1 of `d`, `s` and `w`
  abbrev pub class_escape_set : CharacterClassType → CharSet
  class_escape_set Digits = digits
  class_escape_set Spaces = white_space ++ line_terminators
  class_escape_set Words = maybe_simple_case_folding word_characters

  -- 22.2.2.9 CompileToCharSet: CharacterClassEscape, with the complements for capitals: 1 and 2 of `D`, `S` and `W`
  abbrev pub character_class_escape : CharacterClassType → (capital : Bool) → CharSet
  character_class_escape kind capital =
      if capital then character_complement (class_escape_set kind) else class_escape_set kind
