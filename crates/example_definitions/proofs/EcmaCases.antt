-- Examples: which characters classes with the flag i match in ECMA-262, computed from the transcription. The source of a
-- class starts after its `[`. Each class is asked for the same fourteen characters; those that it matches are what V8
-- 11.3 matches with it.
use Rattle.std.proofs.Common.{◌≡◌, ℕ, ◌+◌, ◌-◌, ◌≤◌, nat_le, ◌==◌, Bool, true, false, not, ◌&&◌, if◌then◌else◌, List, [], ◌∷◌, ◌++◌, filter, Option, Some, None, option_map, refl, ap, ap₂, ◌∙◌, arith, codes}
use Rattle.std.proofs.lemmas.Bool.{and_parts, leb-true}
use Rattle.std.proofs.lemmas.Bool.Decides.{nat_tests}
use Rattle.std.specs.List.{list_all}
use Rattle.regress_base.proofs.lemmas.Sets.{intervals_of-member}
use Rattle.regress_base.specs.Classes.{line_terminators}
use Rattle.regress_base.specs.Intervals.{Bounds, code_point_max, is_member, is_within}
use Rattle.regress_base.specs.Table.{Table, named as value_named}
use Rattle.regress_base.specs.declared.types.Flags.{Flags}
use Rattle.regress_classes.specs.declared.parameters.Parameters.{Parameters}
use Rattle.regress_classes.specs.ClassSets.{set_character_at, strings_by}
use Rattle.regress_classes.specs.Properties.{property_at}
use Rattle.regress_lexer.specs.declared.dialect.Dialect.TheVariants.{Regress}
use Rattle.regress_lexer.specs.Digits.{front, after}
use Rattle.regress_lexer.specs.Escapes.{escape_at, unicode_at}
use Rattle.regress_lexer.specs.Source.{Source}
use Rattle.regress_syntax.specs.Syntax.{Atom, class, class_set}
use Rattle.regress_tree.specs.Assertions.{differ}
use Rattle.regress_tree.specs.Reading.{forwards}
use Rattle.regress_ecma.specs.Assertions.{accept}
use Rattle.regress_ecma.specs.Atoms.{compile_atom, dot_set}
use Rattle.regress_ecma.specs.Characters.{canonicalize, has_some, all_characters, word_characters}
use Rattle.regress_ecma.specs.CharacterMatchers.{is_found, character_set_matcher}
use Rattle.regress_ecma.specs.CharSets.{compile_character_class, compile_to_char_set}
use Rattle.regress_ecma.specs.ClassGrammar.{class_ranges_by, class_set_by, class_union_by, operands_by, operand_at, character_class_at}
use Rattle.regress_ecma.specs.ClassNodes.{CharacterClass}
use Rattle.regress_ecma.proofs.lemmas.ClassCharacters.{in_all, in_contents, in_class, all_is, words_are, contents_is, class_is, candidates, found_is}
use Rattle.example_definitions.proofs.Meanings.{empty_table, no_flags, run}

-- ---- some letters

abbrev pub kelvin : ℕ
kelvin = 0x212A

abbrev pub long_s : ℕ
long_s = 0x17F

abbrev e_acute : ℕ
e_acute = 0xE9

abbrev sharp_s : ℕ
sharp_s = 0xDF

abbrev capital_sharp_s : ℕ
capital_sharp_s = 0x1E9E

abbrev capitals : List Bounds
capitals = run 0x41 0x5A ∷ run 0xC9 0xC9 ∷ run capital_sharp_s capital_sharp_s ∷ run kelvin kelvin ∷ []

abbrev small_letters : List Bounds
small_letters = run 0x61 0x7A ∷ run sharp_s sharp_s ∷ run e_acute e_acute ∷ run long_s long_s ∷ []

-- Unicode's data of ASCII and these letters
abbrev pub letters : Table
letters = record empty_table {
  fold = λ c.
      if is_within (run 0x41 0x5A) c then c + 32
      else if c == 0xC9 then e_acute
      else if c == long_s then 0x73
      else if c == capital_sharp_s then sharp_s
      else if c == kelvin then 0x6B
      else c;
  uppercase = λ c. if is_within (run 0x61 0x7A) c then c - 32 else if c == e_acute then 0xC9 else if c == long_s then 0x53 else c;
  general_category = record { name = codes "Lu"; value = capitals } ∷ record { name = codes "Ll"; value = small_letters } ∷ [];
  binary = record { name = codes "ASCII"; value = run 0 0x7F ∷ [] } ∷ [];
}

-- the characters that classes are asked for
abbrev kinds : List ℕ
kinds = codes "kKsSaA1_-" ++ kelvin ∷ long_s ∷ e_acute ∷ sharp_s ∷ capital_sharp_s ∷ []

-- the flag i, and with it u or v
abbrev pub i : Flags
i = record no_flags { icase = true }

abbrev pub iu : Flags
iu = record no_flags { icase = true; unicode = true }

abbrev pub iv : Flags
iv = record no_flags { icase = true; unicode = true; unicode_sets = true }

-- the flag v alone
abbrev pub v : Flags
v = record no_flags { unicode = true; unicode_sets = true }

-- ---- what a class matches

-- The class matches the character.
abbrev takes : Flags → Atom → ℕ → Bool
takes rer (class flags inverted members) ch = differ inverted (is_found letters rer members ch)
takes rer (class_set flags negated value) ch = is_found letters rer value.members ch
takes rer other ch = false

-- the parameters of the productions, beside groups without names
abbrev parameters_of : Flags → Parameters
parameters_of rer = record { dialect = Regress; icase = rer.icase; unicode = rer.unicode; named = false }

-- the kinds that the class matches, by the transcription
abbrev taken : Flags → Source → Option (List ℕ)
taken rer t =
    option_map (λ found. filter (takes rer (compile_character_class letters rer found.0)) kinds)
    (character_class_at letters (parameters_of rer) rer.unicode_sets t)

-- The source is a class that matches these kinds.
abbrev Takes : Flags → Source → List ℕ → Type 0
Takes rer t expected = taken rer t ≡ Some expected

-- ---- how it is computed

-- the characters that another one folds to, or that have an upper case
abbrev moved : List Bounds
moved = run 0x41 0x5A ∷ run 0x61 0x7A ∷ run 0xC9 0xC9 ∷ run e_acute e_acute ∷ run long_s long_s ∷ run capital_sharp_s capital_sharp_s ∷ run kelvin kelvin ∷ []

moved_le : (a : ℕ) → is_member moved a ≡ true → a ≤ code_point_max
unfolding is_member is_within
moved_le a member = grind (arith, nat_tests, member)

stays_folded : (a : ℕ) → is_member moved a ≡ false → letters.fold a ≡ a
unfolding is_member is_within
stays_folded a e = grind (arith, nat_tests, e)

stays_upper : (a : ℕ) → is_member moved a ≡ false → canonicalize letters i a ≡ a
unfolding is_member is_within
stays_upper a e = grind (arith, nat_tests, e)

folds_once : (c : ℕ) → letters.fold (letters.fold c) ≡ letters.fold c
unfolding is_within
folds_once c = grind (arith, nat_tests)

-- whether some character has the canonical form of ch and passes the test
abbrev some_like : Flags → (ℕ → Bool) → ℕ → Bool
some_like rer test ch =
    has_some (λ a. (canonicalize letters rer a == canonicalize letters rer ch) && test a) (candidates letters rer moved ch)

abbrev is_matched : Flags → CharacterClass → ℕ → Bool
is_matched rer node ch =
    if rer.icase
    then (if rer.unicode_sets then some_like rer (in_class letters rer node) ch
    else differ node.invert (some_like rer (in_contents letters rer node.contents) ch))
    else in_class letters rer node ch

unfoldable computed : Flags → Source → Option (List ℕ)
unfolding character_class_at class_ranges_by class_set_by class_union_by operands_by operand_at set_character_at strings_by escape_at unicode_at
    front after property_at value_named is_member is_within
computed rer t =
    option_map (λ found. filter (is_matched rer found.0) kinds) (character_class_at letters (parameters_of rer) rer.unicode_sets t)

-- lists of what passes tests that agree on the elements
filter_agree : (p q test : ℕ → Bool) → ((c : ℕ) → test c ≡ true → p c ≡ q c) → (xs : List ℕ) → list_all test xs ≡ true →
    filter p xs ≡ filter q xs
filter_agree p q test same [] h = refl
filter_agree p q test same (x ∷ xs) h =
    let parts = and_parts (test x) (list_all test xs) h in
    ap₂ (λ (b : Bool) (rest : List ℕ). if b then x ∷ rest else rest) (same x parts.0) (filter_agree p q test same xs parts.1)

-- the canonical form is a code point
abbrev is_in_order : Flags → ℕ → Bool
is_in_order rer c = nat_le c code_point_max && nat_le (canonicalize letters rer c) code_point_max

module _ (rer : Flags) (test : (node : CharacterClass) (ch : ℕ) → is_in_order rer ch ≡ true →
    takes rer (compile_character_class letters rer node) ch ≡ is_matched rer node ch) (kinds_are : list_all (is_in_order rer) kinds ≡ true) where
  computes : (t : Source) → taken rer t ≡ computed rer t
  unfolding computed
  computes t = by_result (character_class_at letters (parameters_of rer) rer.unicode_sets t)
    where
      by_result : (found : Option (CharacterClass × Source)) →
          option_map (λ found. filter (takes rer (compile_character_class letters rer found.0)) kinds) found
          ≡ option_map (λ found. filter (is_matched rer found.0) kinds) found
      by_result None = refl
      by_result (Some found) =
          ap Some
          (filter_agree (takes rer (compile_character_class letters rer found.0)) (is_matched rer found.0) (is_in_order rer) (test found.0) kinds kinds_are)

canonical_le : (rer : Flags) (ch : ℕ) → is_in_order rer ch ≡ true → canonicalize letters rer ch ≤ code_point_max
canonical_le rer ch h =
    leb-true (canonicalize letters rer ch) code_point_max
    (and_parts (nat_le ch code_point_max) (nat_le (canonicalize letters rer ch) code_point_max) h).1

code_point_le : (rer : Flags) (ch : ℕ) → is_in_order rer ch ≡ true → ch ≤ code_point_max
code_point_le rer ch h =
    leb-true ch code_point_max
    (and_parts (nat_le ch code_point_max) (nat_le (canonicalize letters rer ch) code_point_max) h).0

kinds_of_i : list_all (is_in_order i) kinds ≡ true
unfolding is_within
kinds_of_i = refl

kinds_of_iu : list_all (is_in_order iu) kinds ≡ true
unfolding is_within
kinds_of_iu = refl

kinds_of_iv : list_all (is_in_order iv) kinds ≡ true
unfolding is_within
kinds_of_iv = refl

kinds_of_v : list_all (is_in_order v) kinds ≡ true
kinds_of_v = refl

by_i : (t : Source) → taken i t ≡ computed i t
by_i = computes i same kinds_of_i
  where
    same : (node : CharacterClass) (ch : ℕ) → is_in_order i ch ≡ true →
        takes i (compile_character_class letters i node) ch ≡ is_matched i node ch
    same node ch h =
        ap (differ node.invert)
        (found_is letters i refl moved moved_le stays_upper (compile_to_char_set letters i node.contents).characters
        (in_contents letters i node.contents) (contents_is letters i folds_once node.contents) ch (canonical_le i ch h))

by_iu : (t : Source) → taken iu t ≡ computed iu t
by_iu = computes iu same kinds_of_iu
  where
    same : (node : CharacterClass) (ch : ℕ) → is_in_order iu ch ≡ true →
        takes iu (compile_character_class letters iu node) ch ≡ is_matched iu node ch
    same node ch h =
        ap (differ node.invert)
        (found_is letters iu refl moved moved_le stays_folded (compile_to_char_set letters iu node.contents).characters
        (in_contents letters iu node.contents) (contents_is letters iu folds_once node.contents) ch (canonical_le iu ch h))

by_iv : (t : Source) → taken iv t ≡ computed iv t
by_iv = computes iv same kinds_of_iv
  where
    same : (node : CharacterClass) (ch : ℕ) → is_in_order iv ch ≡ true →
        takes iv (compile_character_class letters iv node) ch ≡ is_matched iv node ch
    same node ch h =
        found_is letters iv refl moved moved_le stays_folded _ (in_class letters iv node) (class_is letters iv folds_once node) ch
        (canonical_le iv ch h)

by_v : (t : Source) → taken v t ≡ computed v t
by_v = computes v same kinds_of_v
  where
    same : (node : CharacterClass) (ch : ℕ) → is_in_order v ch ≡ true →
        takes v (compile_character_class letters v node) ch ≡ is_matched v node ch
    same node ch h = class_is letters v folds_once node ch (code_point_le v ch h)

-- ---- the flag i alone

not_word_or_low_line : Takes i (codes "\\W_]") (codes "_-" ++ kelvin ∷ long_s ∷ e_acute ∷ sharp_s ∷ capital_sharp_s ∷ [])
unfolding computed
not_word_or_low_line = by_i (codes "\\W_]")

not_such : Takes i (codes "^\\W_]") (codes "kKsSaA1")
unfolding computed
not_such = by_i (codes "^\\W_]")

words : Takes i (codes "\\w]") (codes "kKsSaA1_")
unfolding computed
words = by_i (codes "\\w]")

not_words : Takes i (codes "\\W]") (codes "-" ++ kelvin ∷ long_s ∷ e_acute ∷ sharp_s ∷ capital_sharp_s ∷ [])
unfolding computed
not_words = by_i (codes "\\W]")

inverted_not_words : Takes i (codes "^\\W]") (codes "kKsSaA1_")
unfolding computed
inverted_not_words = by_i (codes "^\\W]")

small_k : Takes i (codes "k]") (codes "kK")
unfolding computed
small_k = by_i (codes "k]")

inverted_small_k : Takes i (codes "^k]") (codes "sSaA1_-" ++ kelvin ∷ long_s ∷ e_acute ∷ sharp_s ∷ capital_sharp_s ∷ [])
unfolding computed
inverted_small_k = by_i (codes "^k]")

kelvin_sign : Takes i (codes "\\u212A]") (kelvin ∷ [])
unfolding computed
kelvin_sign = by_i (codes "\\u212A]")

a_long_s : Takes i (codes "\\u017F]") (long_s ∷ [])
unfolding computed
a_long_s = by_i (codes "\\u017F]")

a_small_s : Takes i (codes "s]") (codes "sS")
unfolding computed
a_small_s = by_i (codes "s]")

a_range : Takes i (codes "J-L]") (codes "kK")
unfolding computed
a_range = by_i (codes "J-L]")

a_sharp_s : Takes i (codes "\\xDF]") (sharp_s ∷ [])
unfolding computed
a_sharp_s = by_i (codes "\\xDF]")

a_capital_sharp_s : Takes i (codes "\\u1E9E]") (capital_sharp_s ∷ [])
unfolding computed
a_capital_sharp_s = by_i (codes "\\u1E9E]")

escape_ends_no_range : Takes i (codes "\\W-k]") (codes "kK-" ++ kelvin ∷ long_s ∷ e_acute ∷ sharp_s ∷ capital_sharp_s ∷ [])
unfolding computed
escape_ends_no_range = by_i (codes "\\W-k]")

-- ---- the flags i and u

u_not_word_or_low_line : Takes iu (codes "\\W_]") (codes "_-" ++ e_acute ∷ sharp_s ∷ capital_sharp_s ∷ [])
unfolding computed
u_not_word_or_low_line = by_iu (codes "\\W_]")

u_not_such : Takes iu (codes "^\\W_]") (codes "kKsSaA1" ++ kelvin ∷ long_s ∷ [])
unfolding computed
u_not_such = by_iu (codes "^\\W_]")

u_words : Takes iu (codes "\\w]") (codes "kKsSaA1_" ++ kelvin ∷ long_s ∷ [])
unfolding computed
u_words = by_iu (codes "\\w]")

u_small_k : Takes iu (codes "k]") (codes "kK" ++ kelvin ∷ [])
unfolding computed
u_small_k = by_iu (codes "k]")

u_inverted_small_k : Takes iu (codes "^k]") (codes "sSaA1_-" ++ long_s ∷ e_acute ∷ sharp_s ∷ capital_sharp_s ∷ [])
unfolding computed
u_inverted_small_k = by_iu (codes "^k]")

u_kelvin_sign : Takes iu (codes "\\u212A]") (codes "kK" ++ kelvin ∷ [])
unfolding computed
u_kelvin_sign = by_iu (codes "\\u212A]")

u_long_s : Takes iu (codes "\\u017F]") (codes "sS" ++ long_s ∷ [])
unfolding computed
u_long_s = by_iu (codes "\\u017F]")

u_sharp_s : Takes iu (codes "\\u{DF}]") (sharp_s ∷ capital_sharp_s ∷ [])
unfolding computed
u_sharp_s = by_iu (codes "\\u{DF}]")

u_capital_letters : Takes iu (codes "\\p{Lu}]") (codes "kKsSaA" ++ kelvin ∷ long_s ∷ e_acute ∷ sharp_s ∷ capital_sharp_s ∷ [])
unfolding computed
u_capital_letters = by_iu (codes "\\p{Lu}]")

u_no_capital_letters : Takes iu (codes "\\P{Lu}]") (codes "kKsSaA1_-" ++ kelvin ∷ long_s ∷ e_acute ∷ sharp_s ∷ capital_sharp_s ∷ [])
unfolding computed
u_no_capital_letters = by_iu (codes "\\P{Lu}]")

u_inverted_no_capital_letters : Takes iu (codes "^\\P{Lu}]") []
unfolding computed
u_inverted_no_capital_letters = by_iu (codes "^\\P{Lu}]")

u_inverted_capital_letters : Takes iu (codes "^\\p{Lu}]") (codes "1_-")
unfolding computed
u_inverted_capital_letters = by_iu (codes "^\\p{Lu}]")

-- ---- the flags i and v

v_not_word_or_low_line : Takes iv (codes "\\W_]") (codes "_-" ++ e_acute ∷ sharp_s ∷ capital_sharp_s ∷ [])
unfolding computed
v_not_word_or_low_line = by_iv (codes "\\W_]")

v_not_such : Takes iv (codes "^\\W_]") (codes "kKsSaA1" ++ kelvin ∷ long_s ∷ [])
unfolding computed
v_not_such = by_iv (codes "^\\W_]")

v_words : Takes iv (codes "\\w]") (codes "kKsSaA1_" ++ kelvin ∷ long_s ∷ [])
unfolding computed
v_words = by_iv (codes "\\w]")

v_small_k : Takes iv (codes "k]") (codes "kK" ++ kelvin ∷ [])
unfolding computed
v_small_k = by_iv (codes "k]")

v_inverted_small_k : Takes iv (codes "^k]") (codes "sSaA1_-" ++ long_s ∷ e_acute ∷ sharp_s ∷ capital_sharp_s ∷ [])
unfolding computed
v_inverted_small_k = by_iv (codes "^k]")

v_kelvin_sign : Takes iv (codes "\\u212A]") (codes "kK" ++ kelvin ∷ [])
unfolding computed
v_kelvin_sign = by_iv (codes "\\u212A]")

v_capital_letters : Takes iv (codes "\\p{Lu}]") (codes "kKsSaA" ++ kelvin ∷ long_s ∷ e_acute ∷ sharp_s ∷ capital_sharp_s ∷ [])
unfolding computed
v_capital_letters = by_iv (codes "\\p{Lu}]")

v_no_capital_letters : Takes iv (codes "\\P{Lu}]") (codes "1_-")
unfolding computed
v_no_capital_letters = by_iv (codes "\\P{Lu}]")

v_inverted_no_capital_letters : Takes iv (codes "^\\P{Lu}]") (codes "kKsSaA" ++ kelvin ∷ long_s ∷ e_acute ∷ sharp_s ∷ capital_sharp_s ∷ [])
unfolding computed
v_inverted_no_capital_letters = by_iv (codes "^\\P{Lu}]")

v_inverted_capital_letters : Takes iv (codes "^\\p{Lu}]") (codes "1_-")
unfolding computed
v_inverted_capital_letters = by_iv (codes "^\\p{Lu}]")

v_nested_inverted : Takes iv (codes "[^A]]") (codes "kKsS1_-" ++ kelvin ∷ long_s ∷ e_acute ∷ sharp_s ∷ capital_sharp_s ∷ [])
unfolding computed
v_nested_inverted = by_iv (codes "[^A]]")

v_inverted_twice : Takes iv (codes "^[^k]]") (codes "kK" ++ kelvin ∷ [])
unfolding computed
v_inverted_twice = by_iv (codes "^[^k]]")

v_intersection_of_cases : Takes iv (codes "[A-Z]&&[a-z]]") (codes "kKsSaA" ++ kelvin ∷ long_s ∷ [])
unfolding computed
v_intersection_of_cases = by_iv (codes "[A-Z]&&[a-z]]")

v_intersection_with_kelvin : Takes iv (codes "[a-z]&&\\u212A]") (codes "kK" ++ kelvin ∷ [])
unfolding computed
v_intersection_with_kelvin = by_iv (codes "[a-z]&&\\u212A]")

-- V8 11.3 matches `k` with `[\w--k]`, by a fault: it folds the second operand of `--` only in a nested class.
v_words_without_a_letter : Takes iv (codes "\\w--k]") (codes "sSaA1_" ++ long_s ∷ [])
unfolding computed
v_words_without_a_letter = by_iv (codes "\\w--k]")

v_words_without_k : Takes iv (codes "\\w--[k]]") (codes "sSaA1_" ++ long_s ∷ [])
unfolding computed
v_words_without_k = by_iv (codes "\\w--[k]]")

v_range_without_kelvin : Takes iv (codes "[a-z]--[\\u212A]]") (codes "sSaA" ++ long_s ∷ [])
unfolding computed
v_range_without_kelvin = by_iv (codes "[a-z]--[\\u212A]]")

v_capitals_without_a_range : Takes iv (codes "\\p{Lu}--[J-L]]") (codes "sSaA" ++ long_s ∷ e_acute ∷ sharp_s ∷ capital_sharp_s ∷ [])
unfolding computed
v_capitals_without_a_range = by_iv (codes "\\p{Lu}--[J-L]]")

v_capitals_and_small_letters : Takes iv (codes "\\p{Lu}&&\\p{Ll}]") (codes "kKsSaA" ++ kelvin ∷ long_s ∷ e_acute ∷ sharp_s ∷ capital_sharp_s ∷ [])
unfolding computed
v_capitals_and_small_letters = by_iv (codes "\\p{Lu}&&\\p{Ll}]")

v_neither : Takes iv (codes "\\P{Lu}&&\\P{Ll}]") (codes "1_-")
unfolding computed
v_neither = by_iv (codes "\\P{Lu}&&\\P{Ll}]")

v_nested_not_words_and_k : Takes iv (codes "[\\W]k]") (codes "kK-" ++ kelvin ∷ e_acute ∷ sharp_s ∷ capital_sharp_s ∷ [])
unfolding computed
v_nested_not_words_and_k = by_iv (codes "[\\W]k]")

v_strings : Takes iv (codes "\\q{KK|k}]") (codes "kK" ++ kelvin ∷ [])
unfolding computed
v_strings = by_iv (codes "\\q{KK|k}]")

v_inverted_string : Takes iv (codes "^\\q{K}]") (codes "sSaA1_-" ++ long_s ∷ e_acute ∷ sharp_s ∷ capital_sharp_s ∷ [])
unfolding computed
v_inverted_string = by_iv (codes "^\\q{K}]")

v_strings_removed : Takes iv (codes "[a-z]--[\\q{S|KK}]]") (codes "kKaA" ++ kelvin ∷ [])
unfolding computed
v_strings_removed = by_iv (codes "[a-z]--[\\q{S|KK}]]")

v_ascii_removed : Takes iv (codes "[\\xDFk]--[\\p{ASCII}]]") (sharp_s ∷ capital_sharp_s ∷ [])
unfolding computed
v_ascii_removed = by_iv (codes "[\\xDFk]--[\\p{ASCII}]]")

-- ---- the flag v alone

alone_inverted_no_capital_letters : Takes v (codes "^\\P{Lu}]") (codes "KSA" ++ kelvin ∷ capital_sharp_s ∷ [])
unfolding computed
alone_inverted_no_capital_letters = by_v (codes "^\\P{Lu}]")

alone_nested_inverted : Takes v (codes "[^A]]") (codes "kKsSa1_-" ++ kelvin ∷ long_s ∷ e_acute ∷ sharp_s ∷ capital_sharp_s ∷ [])
unfolding computed
alone_nested_inverted = by_v (codes "[^A]]")

alone_intersection_of_cases : Takes v (codes "[A-Z]&&[a-z]]") []
unfolding computed
alone_intersection_of_cases = by_v (codes "[A-Z]&&[a-z]]")

alone_words_without_k : Takes v (codes "\\w--k]") (codes "KsSaA1_")
unfolding computed
alone_words_without_k = by_v (codes "\\w--k]")

alone_strings : Takes v (codes "\\q{KK|k}]") (codes "k")
unfolding computed
alone_strings = by_v (codes "\\q{KK|k}]")

-- ---- `.` and word characters

abbrev in_dot : ℕ → Bool
in_dot c = in_all letters iv c && not (is_member line_terminators c)

dot_is : (c : ℕ) → c ≤ code_point_max → is_member (dot_set letters iv) c ≡ in_dot c
dot_is c le =
    intervals_of-member (λ x. is_member (all_characters letters iv) x && not (is_member line_terminators x)) c le
    ∙ ap (λ (b : Bool). b && not (is_member line_terminators c)) (all_is letters iv c le)

-- With v the set of `.` has folded characters alone, and matches each.
v_dot : filter (is_found letters iv (dot_set letters iv)) kinds ≡ kinds
unfolding computed
v_dot =
    filter_agree (is_found letters iv (dot_set letters iv)) (some_like iv in_dot) (is_in_order iv)
    (λ ch h. found_is letters iv refl moved moved_le stays_folded (dot_set letters iv) in_dot dot_is ch (canonical_le iv ch h))
    kinds kinds_of_iv

-- The extra word characters, with u alone.
extra_word_characters : (is_member (word_characters letters iu) long_s ≡ true) × (is_member (word_characters letters iu) kelvin ≡ true)
    × (is_member (word_characters letters iu) sharp_s ≡ false) × (is_member (word_characters letters i) long_s ≡ false)
    × (is_member (word_characters letters i) kelvin ≡ false)
unfolding computed
extra_word_characters = (
  words_are letters iu long_s (omega arith),
  words_are letters iu kelvin (omega arith),
  words_are letters iu sharp_s (omega arith),
  words_are letters i long_s (omega arith),
  words_are letters i kelvin (omega arith),
)

-- ---- strings

-- where the match of the class at the start of the text ends
unfoldable string_end : Flags → Source → List ℕ → Option (Option ℕ)
unfolding computed character_set_matcher
string_end rer t text =
    option_map
    (λ found.
    option_map (λ x. x.end_index)
    (compile_atom letters [] rer forwards (compile_character_class letters rer found.0) (record { input = text; end_index = 0; captures = [] }) accept))
    (character_class_at letters (parameters_of rer) rer.unicode_sets t)

a_string_matches_in_each_case : (string_end iv (codes "\\q{KK|k}]") (codes "kK") ≡ Some (Some 2))
    × (string_end iv (codes "\\q{KK|k}]") (kelvin ∷ kelvin ∷ codes "k") ≡ Some (Some 2))
unfolding string_end
a_string_matches_in_each_case = (refl, refl)

without_i_a_string_matches_as_it_is_written : (string_end v (codes "\\q{KK|k}]") (codes "KK") ≡ Some (Some 2))
    × (string_end v (codes "\\q{KK|k}]") (codes "kK") ≡ Some (Some 1)) × (string_end v (codes "\\q{KK|k}]") (codes "Kk") ≡ Some None)
unfolding string_end
without_i_a_string_matches_as_it_is_written = (refl, refl, refl)
