-- Examples: how groups, names, modifiers and references are parsed, and their trees and marks.
use Rattle.std.proofs.Common.{◌≡◌, ℕ, Bool, false, true, List, [], ◌∷◌, Option, Some, None, option_map, refl, codes}
use Rattle.std.specs.Char.{encode_utf8}
use Rattle.regress_base.specs.declared.types.Flags.{Flags}
use Rattle.regress_tree.specs.Steps.{Setting}
use Rattle.regress_tree.specs.Reading.{forwards}
use Rattle.regress_tree.specs.Tree.{Tree, leaf, goal, back_ref, cat, alt, wrapped, capture_group, lookaround}
use Rattle.regress_lexer.specs.Modifiers.{Change}
use Rattle.regress_syntax.specs.GroupTokens.{GroupToken, opens, captures, closes, next, tokens_of}
use Rattle.regress_syntax.specs.SameNames.{are_names_apart}
use Rattle.regress_syntax.specs.Scan.{tokens, plain as outside_classes}
use Rattle.regress_lexer.specs.Source.{Source}
use Rattle.regress_syntax.specs.Syntax.{Pattern, one, no_terms, more_terms, atom, literal, class, back_reference, by_number, group, modified, capture, look}
use Rattle.regress_parse.specs.TreeOf.{tree_of}
use Rattle.example_definitions.proofs.PatternExamples.{letter, word, two, list, character, quantifier, captured_letter}
use Rattle.example_definitions.proofs.Meanings.{no_flags, plain, named, unicode, pattern_of, run}

-- ---- lookarounds

quantifier_after_a_lookahead : pattern_of plain (codes "(?=a)*")
    ≡ Some (one (more_terms (group (look false forwards) (one (word (letter 97)))) (Some (quantifier 0 None)) no_terms))
unfolding pattern_of
quantifier_after_a_lookahead = refl

no_quantifier_after_a_lookahead_with_u : pattern_of unicode (codes "(?=a)*") ≡ None
unfolding pattern_of
no_quantifier_after_a_lookahead_with_u = refl

no_quantifier_after_a_lookbehind : pattern_of plain (codes "(?<=a)*") ≡ None
unfolding pattern_of
no_quantifier_after_a_lookbehind = refl

-- ---- modifiers

abbrev with_i : Flags
with_i = record no_flags { icase = true }

abbrev i_on : Change
i_on = record { icase = Some true; multiline = None; dot_all = None }

-- a letter with the flag i
abbrev letter_with_i : Pattern
letter_with_i = one (word (group (modified i_on) (one (word (atom (literal with_i 97))))))

i_switched_on : pattern_of plain (codes "(?i:a)") ≡ Some letter_with_i
unfolding pattern_of
i_switched_on = refl

-- No letter has to follow the hyphen.
i_switched_on_and_nothing_off : pattern_of plain (codes "(?i-:a)") ≡ Some letter_with_i
unfolding pattern_of
i_switched_on_and_nothing_off = refl

no_flag_on_and_off : pattern_of plain (codes "(?i-i:a)") ≡ None
unfolding pattern_of
no_flag_on_and_off = refl

no_hyphen_alone : pattern_of plain (codes "(?-:a)") ≡ None
unfolding pattern_of
no_hyphen_alone = refl

no_question_mark_alone : pattern_of plain (codes "(?)") ≡ None
unfolding pattern_of
no_question_mark_alone = refl

-- ---- references by number

-- A parenthesis in a class opens no group.
one_group_beside_a_class : pattern_of plain (codes "[(]\\1(a)")
    ≡ Some (one (more_terms (atom (class no_flags false (run 40 40 ∷ []))) None
    (two (atom (back_reference no_flags (by_number 1))) (captured_letter 97))))
unfolding pattern_of
one_group_beside_a_class = refl

-- There is one group and not ten, so the digits are octal.
octal_without_ten_groups : pattern_of plain (codes "\\10(a)") ≡ Some (one (two (letter 8) (captured_letter 97)))
unfolding pattern_of
octal_without_ten_groups = refl

octal_without_two_groups : pattern_of plain (codes "\\2(a)") ≡ Some (one (two (letter 2) (captured_letter 97)))
unfolding pattern_of
octal_without_two_groups = refl

no_octal_without_groups_with_u : pattern_of unicode (codes "\\2(a)") ≡ None
unfolding pattern_of
no_octal_without_groups_with_u = refl

-- 8 is no octal digit.
digit_without_groups : pattern_of plain (codes "\\8") ≡ Some (one (word (letter 56)))
unfolding pattern_of
digit_without_groups = refl

-- ---- names

-- Where no group has a name, `\k` matches the letter.
letter_without_names : pattern_of plain (codes "\\k") ≡ Some (one (word (letter 107)))
unfolding pattern_of
letter_without_names = refl

no_letter_without_names_with_u : pattern_of unicode (codes "\\k") ≡ None
unfolding pattern_of
no_letter_without_names_with_u = refl

no_other_name : pattern_of named (codes "(?<a>x)\\k<b>") ≡ None
unfolding pattern_of
no_other_name = refl

-- A name is its characters, however they are written.
name_by_an_escape : pattern_of named (codes "(?<\\u0061>x)")
    ≡ Some (one (word (group (capture (Some (codes "a"))) (one (word (letter 120))))))
unfolding pattern_of
name_by_an_escape = refl

-- An escape of `>` does not end a name, and is not allowed in one.
no_bracket_by_an_escape : pattern_of named (codes "(?<a\\u003Ex)") ≡ None
unfolding pattern_of
no_bracket_by_an_escape = refl

-- ---- trees

-- The source is a pattern with this tree, followed by the goal.
unfoldable HasTree : Setting → Source → Tree → Type 0
unfolding pattern_of encode_utf8
HasTree setting source t = option_map (tree_of setting.table) (pattern_of setting source) ≡ Some (cat (list t (leaf goal)))

abbrev captured : ℕ → Option (List ℕ) → ℕ → Tree
captured id name c = wrapped (capture_group id name) (character c)

-- The parts are reversed, and the groups keep their ids.
lookbehind_of_groups : HasTree plain (codes "(?<=(a)(b))")
    (wrapped (lookaround false true 0 2) (cat (list (captured 1 None 98) (captured 0 None 97))))
unfolding HasTree
lookbehind_of_groups = refl

-- The parts of a lookahead in a lookbehind are not reversed.
lookahead_in_a_lookbehind : HasTree plain (codes "(?<=(?=ab)c)")
    (wrapped (lookaround false true 0 0)
    (cat (list (character 99) (wrapped (lookaround false false 0 0) (cat (list (character 97) (character 98)))))))
unfolding HasTree
lookahead_in_a_lookbehind = refl

-- A name refers to each of its groups.
reference_to_two_groups : HasTree named (codes "(?<a>x)|(?<a>y)\\k<a>")
    (alt (captured 0 (Some (codes "a")) 120)
    (cat (list (captured 1 (Some (codes "a")) 121) (alt (leaf (back_ref 1 false)) (leaf (back_ref 2 false))))))
unfolding HasTree
reference_to_two_groups = refl

-- ---- marks

-- The source and the syntax tree have these marks.
unfoldable HasTokens : Setting → Source → List GroupToken → Type 0
unfolding pattern_of
HasTokens setting source ms =
    (tokens setting.flags.unicode_sets setting.table outside_classes source ≡ ms)
    × (option_map tokens_of (pattern_of setting source) ≡ Some ms)

-- Parentheses in classes and after backslashes leave no mark.
marks_of_each_kind : HasTokens named (codes "(?<a>x)(?:y)[(]\\((z)")
    (captures (Some (codes "a")) ∷ closes ∷ opens ∷ closes ∷ captures None ∷ closes ∷ [])
unfolding HasTokens
marks_of_each_kind = (refl, refl)

marks_of_groups_in_each_other : HasTokens plain (codes "(?<!(?i:a|(b)))")
    (opens ∷ opens ∷ next ∷ captures None ∷ closes ∷ closes ∷ closes ∷ [])
unfolding HasTokens
marks_of_groups_in_each_other = (refl, refl)

-- In a class, neither `[` nor an escaped `]` starts or ends anything.
marks_after_a_class : HasTokens plain (codes "[[\\](]|(a)") (next ∷ captures None ∷ closes ∷ [])
unfolding HasTokens
marks_after_a_class = (refl, refl)

-- whether the source is a pattern without conflicting names
unfoldable names_apart : Source → Option Bool
unfolding pattern_of
names_apart source = option_map are_names_apart (pattern_of named source)

one_name_in_two_alternatives : names_apart (codes "(?<a>x)|(?<a>y)") ≡ Some true
unfolding names_apart
one_name_in_two_alternatives = refl

one_name_twice : names_apart (codes "(?<a>x)(?<a>y)") ≡ Some false
unfolding names_apart
one_name_twice = refl

-- Both groups can take part in one match.
one_name_after_two_alternatives : names_apart (codes "(?:(?<a>x)|y)(?<a>z)") ≡ Some false
unfolding names_apart
one_name_after_two_alternatives = refl
