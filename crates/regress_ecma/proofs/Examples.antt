-- Worked examples of the grammar of classes: what each nonterminal derives. V8 accepts and rejects these classes.
use Rattle.std.proofs.Common.{◌≡◌, ◌<◌, true, false, [], ◌∷◌, inl, inr, Some, None, refl, sym, ◌∙◌}
use Rattle.std.proofs.lemmas.Option.{none-some}
use Rattle.std.specs.Prelude.{codes}
use Rattle.regress_base.specs.Table.{Table}
use Rattle.regress_base.specs.declared.charclasses.CharacterClassType.TheVariants.{Digits, Words}
use Rattle.regress_base.specs.Limits.{max_nesting_depth}
use Rattle.regress_lexer.specs.declared.dialect.Dialect.TheVariants.{Ecma}
use Rattle.regress_lexer.specs.Source.{Source, char}
use Rattle.regress_lexer.specs.Digits.{front, after}
use Rattle.regress_classes.specs.declared.parameters.Parameters.{Parameters}
use Rattle.regress_classes.specs.ClassSets.{class_set_at}
use Rattle.regress_classes.specs.ClassSets as ClassSets
use Rattle.regress_ecma.specs.CharacterEscapes.{control_escape, unicode_escape, legacy_octal_escape, identity_escape, character_escape, source_character}
use Rattle.regress_ecma.specs.ClassNodes.{character, class_escape, class_strings, nested_class, empty, atom_then, range_then, intersection, subtraction, CharacterClass}
use Rattle.regress_ecma.specs.ClassRanges.{class_escape_of, class_atom, class_atom_no_dash, IsAcceptedClass, is_wrong_range, has_early_error}
use Rattle.regress_ecma.specs.ClassSetExpressions.{class_set_character, IsAcceptedClassSet, may_contain_strings, contents_have_early_error, depth}
use Rattle.regress_ecma.specs.ClassSetExpressions as ClassSetExpressions
use Rattle.regress_ecma.proofs.DerivedClassSets.{class_set_derived}

-- ---- CharacterEscape

newline : control_escape (codes "nx") ≡ Some (0xA, codes "x")
newline = refl

no_control : control_escape (codes "q") ≡ None
no_control = refl

braces : unicode_escape true (codes "u{1F600}x") ≡ Some (0x1F600, codes "x")
unfolding front after
braces = refl

too_large : unicode_escape true (codes "u{110000}") ≡ None
unfolding front after
too_large = refl

pair : unicode_escape true (codes "ud83d\\ude00") ≡ Some (0x1F600, [])
pair = refl

half : unicode_escape false (codes "ud83d\\ude00") ≡ Some (0xD83D, codes "\\ude00")
half = refl

three_digits : legacy_octal_escape (codes "1014") ≡ Some (0x41, codes "4")
three_digits = refl

two_digits : legacy_octal_escape (codes "477") ≡ Some (0x27, codes "7")
two_digits = refl

zero_before_eight : legacy_octal_escape (codes "08") ≡ Some (0, codes "8")
zero_before_eight = refl

syntax_character : identity_escape true false (codes "]") ≡ Some (char "]", [])
syntax_character = refl

no_letter : identity_escape true false (codes "q") ≡ None
no_letter = refl

reserved_k : identity_escape false true (codes "k") ≡ None
reserved_k = refl

letter_k : identity_escape false false (codes "k") ≡ Some (char "k", [])
letter_k = refl

control_letter : character_escape true false (codes "cJ") ≡ Some (0xA, [])
control_letter = refl

hex : character_escape false false (codes "x41") ≡ Some (0x41, [])
hex = refl

no_hex : character_escape false false (codes "x4") ≡ Some (char "x", codes "4")
no_hex = refl

unit : source_character false (0x1F600 ∷ []) ≡ Some (0xD83D, 0xDE00 ∷ [])
unit = refl

whole : source_character true (0x1F600 ∷ []) ≡ Some (0x1F600, [])
whole = refl

module _ (table : Table) where
  -- ---- ClassEscape and ClassAtom

  backspace : class_escape_of table true false (codes "b") ≡ Some (character 8, [])
  backspace = refl

  hyphen : class_escape_of table true false (codes "-") ≡ Some (character (char "-"), [])
  hyphen = refl

  digits : class_escape_of table false false (codes "dx") ≡ Some (class_escape Digits false, codes "x")
  digits = refl

  control_digit : class_atom table false false (codes "\\c1") ≡ Some (character 0x11, [])
  unfolding class_atom class_atom_no_dash
  control_digit = refl

  lone_backslash : class_atom table false false (codes "\\c*") ≡ Some (character (char "\\"), codes "c*")
  unfolding class_atom class_atom_no_dash
  lone_backslash = refl

  no_lone_backslash : class_atom table true false (codes "\\c*") ≡ None
  unfolding class_atom class_atom_no_dash
  no_lone_backslash = refl

  no_bracket : class_atom table false false (codes "]") ≡ None
  unfolding class_atom class_atom_no_dash
  no_bracket = refl

  no_hyphen : class_atom_no_dash table false false (codes "-") ≡ None
  unfolding class_atom_no_dash
  no_hyphen = refl

  -- ---- CharacterClass

  -- `[a-c-]`
  range_and_hyphen : IsAcceptedClass table true false
      (record { invert = false; contents = range_then (character (char "a")) (character (char "c")) (atom_then (character (char "-")) empty) })
      (codes "[a-c-]x") (codes "x")
  unfolding class_atom class_atom_no_dash
  range_and_hyphen =
      ((codes "a-c-]x", inl (refl, refl, refl), inr (codes "c-]x", codes "-]x", refl, refl, inr (codes "]x", refl, inl (refl, refl)))), refl)

  -- `[^]`
  everything : IsAcceptedClass table false false (record { invert = true; contents = empty }) (codes "[^]") []
  everything = ((codes "]", inr (refl, refl), inl (refl, refl)), refl)

  -- `[\w-a]` with u, and `[b-a]`
  set_as_end : has_early_error true (range_then (class_escape Words false) (character (char "a")) empty) ≡ true
  set_as_end = refl

  set_as_end_without_u : has_early_error false (range_then (class_escape Words false) (character (char "a")) empty) ≡ false
  set_as_end_without_u = refl

  out_of_order : is_wrong_range false (character (char "b")) (character (char "a")) ≡ true
  out_of_order = refl

  -- ---- ClassSetExpression

  no_double : class_set_character table false (codes "&&") ≡ None
  unfolding class_set_character
  no_double = refl

  other_pair : class_set_character table false (codes "!#") ≡ Some (char "!", codes "#")
  unfolding class_set_character
  other_pair = refl

  punctuator : class_set_character table false (codes "\\&a") ≡ Some (char "&", codes "a")
  unfolding class_set_character
  punctuator = refl

  no_syntax : class_set_character table false (codes "(") ≡ None
  unfolding class_set_character
  no_syntax = refl

  -- `[a&&b]`
  one_intersection : IsAcceptedClassSet table false
      (record { invert = false; contents = intersection (atom_then (character (char "a")) empty) (character (char "b")) }) (codes "[a&&b]x") (codes "x")
  unfolding class_set_character
  one_intersection = ((codes "a&&b]x", (refl, refl), inr (inr (inl (codes "b]x", inl (refl, refl), refl, refl)))), refl)

  -- `[a--b--c]`
  two_subtractions : IsAcceptedClassSet table false
      (record {
        invert = false;
        contents = subtraction (subtraction (atom_then (character (char "a")) empty) (character (char "b"))) (character (char "c"));
      })
      (codes "[a--b--c]") []
  unfolding class_set_character
  two_subtractions =
      ((codes "a--b--c]", (refl, refl), inr (inr (inr (codes "c]", inr (codes "b--c]", inl (refl, refl), refl), refl)))), refl)

  -- `[a&-z]`
  ampersand_as_start : IsAcceptedClassSet table false
      (record {
        invert = false;
        contents = atom_then (character (char "a")) (range_then (character (char "&")) (character (char "z")) empty);
      })
      (codes "[a&-z]") []
  unfolding class_set_character
  ampersand_as_start =
      ((codes "a&-z]", (refl, refl), inr (inl (codes "&-z]", refl, inr (codes "]", (codes "z]", refl, refl), inl (refl, refl))))), refl)

  -- `[\q{a|bc}]`
  strings_of_both : IsAcceptedClassSet table false
      (record { invert = false; contents = atom_then (class_strings (codes "a" ∷ codes "bc" ∷ [])) empty }) (codes "[\\q{a|bc}]") []
  unfolding class_set_character
  strings_of_both = (
    (
      codes "\\q{a|bc}]",
      (refl, refl),
      inr (inl (
        codes "]",
        (
          codes "a|bc}]",
          refl,
          inr (codes "bc}]", (codes "|bc}]", refl, refl), inl (refl, (codes "c}]", refl, (codes "}]", refl, refl)))),
        ),
        inl (refl, refl),
      )),
    ),
    refl,
  )

  -- `[^\q{a}]`
  inverted_character : IsAcceptedClassSet table false
      (record { invert = true; contents = atom_then (class_strings (codes "a" ∷ [])) empty }) (codes "[^\\q{a}]") []
  unfolding class_set_character
  inverted_character =
      ((codes "\\q{a}]", refl, inr (inl (codes "]", (codes "a}]", refl, inl (refl, (codes "}]", refl, refl))), inl (refl, refl)))), refl)

  -- `[^\q{ab}]`
  inverted_string : ClassSetExpressions.has_early_error (record { invert = true; contents = atom_then (class_strings (codes "ab" ∷ [])) empty }) ≡ true
  inverted_string = refl

  -- ---- classes that are not derived

  abbrev parameters : Parameters
  parameters = record { dialect = Ecma; icase = false; unicode = true; named = false }

  abbrev NotDerived : Source → Type 0
  NotDerived t =
      (node : CharacterClass) (rest : Source) → IsAcceptedClassSet table false node (char "[" ∷ t) rest → depth node.contents < max_nesting_depth → ⊥

  not_found : (t : Source) → class_set_at table parameters t ≡ None → NotDerived t
  not_found t none node rest derived within =
      let found = (class_set_derived table parameters refl refl t rest node derived within).1 in
      none-some ((node.invert, found.0), rest) (sym none ∙ found.1)

  -- `[a&&&b]`
  three_ampersands : NotDerived (codes "a&&&b]")
  unfolding ClassSets.class_set_by ClassSets.operand_at ClassSets.operands_by ClassSets.set_character_at
  three_ampersands = not_found (codes "a&&&b]") refl

  -- `[a--b&&c]`
  both_operators : NotDerived (codes "a--b&&c]")
  unfolding ClassSets.class_set_by ClassSets.operand_at ClassSets.operands_by ClassSets.set_character_at
  both_operators = not_found (codes "a--b&&c]") refl

  -- `[a-z--[b]]`
  range_as_operand : NotDerived (codes "a-z--[b]]")
  unfolding ClassSets.class_set_by ClassSets.operand_at ClassSets.parts_by ClassSets.set_character_at
  range_as_operand = not_found (codes "a-z--[b]]") refl

  -- `[!!]`
  reserved_pair : NotDerived (codes "!!]")
  unfolding ClassSets.class_set_by ClassSets.operand_at ClassSets.set_character_at
  reserved_pair = not_found (codes "!!]") refl

  -- `[(]`
  syntax_alone : NotDerived (codes "(]")
  unfolding ClassSets.class_set_by ClassSets.operand_at ClassSets.set_character_at
  syntax_alone = not_found (codes "(]") refl

-- ---- MayContainStrings

-- `\q{ab|c}`, `\q{c}`, `[\q{ab}&&a]` and `[[^\q{c}]]`
two_characters : may_contain_strings (atom_then (class_strings (codes "ab" ∷ codes "c" ∷ [])) empty) ≡ true
two_characters = refl

one_character : may_contain_strings (atom_then (class_strings (codes "c" ∷ [])) empty) ≡ false
one_character = refl

in_both : may_contain_strings (intersection (atom_then (class_strings (codes "ab" ∷ [])) empty) (character (char "a"))) ≡ false
in_both = refl

of_first : may_contain_strings (subtraction (atom_then (class_strings (codes "ab" ∷ [])) empty) (class_strings (codes "ab" ∷ []))) ≡ true
of_first = refl

inverted_strings : contents_have_early_error (atom_then (nested_class true (atom_then (class_strings ([] ∷ [])) empty)) empty) ≡ true
inverted_strings = refl

nested_twice : depth (atom_then (nested_class false (atom_then (nested_class false empty) empty)) empty) ≡ 2
nested_twice = refl
