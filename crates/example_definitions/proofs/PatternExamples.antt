-- Examples: what patterns parse to, with their trees and meanings.
use Rattle.std.proofs.Common.{◌≡◌, ℕ, ◌-◌, ◌^◌, false, true, List, [], ◌∷◌, Option, Some, None, refl, codes}
use Rattle.regress_base.specs.declared.types.Quantifier.{Quantifier}
use Rattle.regress_tree.specs.Reading.{forwards, backwards}
use Rattle.regress_tree.specs.Shapes.{is_flattened_away}
use Rattle.regress_tree.specs.Steps.{one_character, capture as captures, same_state, Setting}
use Rattle.regress_tree.specs.Tree.{Tree, Trees, leaf, empty, goal, char, cat, alt, wrapped, capture_group, loop, no_trees, more_trees}
use Rattle.regress_tree.specs.Units.{units}
use Rattle.regress_lexer.specs.declared.dialect.Dialect.TheVariants.{Regress}
use Rattle.regress_syntax.specs.Meaning.{meaning}
use Rattle.regress_syntax.specs.Syntax.{Pattern, Terms, Item, one, either, no_terms, more_terms, atom, literal, boundary, class, group, grouping, capture, counts, nesting}
use Rattle.regress_parse.specs.Reader.{pattern_at}
use Rattle.regress_parse.specs.TreeOf.{tree_of, tree_of_pattern}
use Rattle.example_definitions.proofs.Meanings.{no_flags, empty_table, plain, unicode, context, pattern_of, run}

abbrev pub letter : ℕ → Item
letter c = atom (literal no_flags c)

-- two terms, and one term, without quantifiers
abbrev pub word : Item → Terms
word x = more_terms x None no_terms

abbrev pub two : Item → Item → Terms
two x y = more_terms x None (word y)

-- `(?:a|bc)d`
abbrev first_pattern : Pattern
first_pattern = one (two (group grouping (either (word (letter 97)) (one (two (letter 98) (letter 99))))) (letter 100))

abbrev pub list : Tree → Tree → Trees
list t u = more_trees t (more_trees u no_trees)

abbrev pub character : ℕ → Tree
character c = leaf (char c)

abbrev first_tree : Tree
first_tree = cat (list (cat (list (alt (character 97) (cat (list (character 98) (character 99)))) (character 100))) (leaf goal))

first_pattern-read : pattern_of plain (codes "(?:a|bc)d") ≡ Some first_pattern
unfolding pattern_of
first_pattern-read = refl

first_pattern-tree : tree_of empty_table first_pattern ≡ first_tree
first_pattern-tree = refl

first_pattern-nesting : nesting first_pattern ≡ 2
first_pattern-nesting = refl

-- one unit for each node, and four more for each character
first_tree-units : units first_tree ≡ 25
first_tree-units = refl

-- In a lookbehind the parts are reversed.
turned : tree_of_pattern empty_table [] backwards 0 (one (two (letter 97) (letter 98))) ≡ cat (list (character 98) (character 97))
turned = refl

-- The group that opens first has the first id, in either direction.
numbered : tree_of_pattern empty_table [] backwards 0
    (one (two (group (capture None) (one (word (letter 97)))) (group (capture None) (one (word (letter 98))))))
    ≡ cat (list (wrapped (capture_group 1 None) (character 98)) (wrapped (capture_group 0 None) (character 97)))
numbered = refl

no_pattern : pattern_of plain (codes "(a") ≡ None
unfolding pattern_of
no_pattern = refl

-- The source is parsed up to an unmatched closing parenthesis, which remains.
left_over : pattern_at (context Regress plain (codes "a)")) (codes "a)") ≡ Some (one (word (letter 97)), 41 ∷ [])
unfolding pattern_of
left_over = refl

-- `|` has two empty alternatives.
bar_alone : tree_of empty_table (either no_terms (one no_terms)) ≡ cat (list (alt (leaf empty) (leaf empty)) (leaf goal))
bar_alone = refl

empty_alone : tree_of empty_table (one no_terms) ≡ cat (list (leaf empty) (leaf goal))
empty_alone = refl

-- Flattening changes the tree of the first pattern, and not that of the empty pattern.
first_tree-flattened_away : is_flattened_away first_tree ≡ true
first_tree-flattened_away = refl

empty_tree-stays : is_flattened_away (cat (list (leaf empty) (leaf goal))) ≡ false
empty_tree-stays = refl

-- ---- quantifiers

abbrev pub quantifier : ℕ → Option ℕ → Quantifier
quantifier least most = record { min = least; max = most; greedy = true }

-- terms of letters
abbrev letters : List ℕ → Terms
letters [] = no_terms
letters (c ∷ cs) = more_terms (letter c) None (letters cs)

abbrev pub captured_letter : ℕ → Item
captured_letter c = group (capture None) (one (word (letter c)))

-- `(a)*b(c){2}`
abbrev looped_pattern : Pattern
looped_pattern =
    one (more_terms (captured_letter 97) (Some (quantifier 0 None))
    (more_terms (letter 98) None (more_terms (captured_letter 99) (Some (quantifier 2 (Some 2))) no_terms)))

looped_pattern-read : pattern_of plain (codes "(a)*b(c){2}") ≡ Some looped_pattern
unfolding pattern_of
looped_pattern-read = refl

-- Each loop has the range of the groups inside.
looped_pattern-tree : tree_of empty_table looped_pattern ≡ cat (list
    (cat (more_trees (wrapped (loop (quantifier 0 None) 0 1) (wrapped (capture_group 0 None) (character 97)))
    (list (character 98) (wrapped (loop (quantifier 2 (Some 2)) 1 2) (wrapped (capture_group 1 None) (character 99))))))
    (leaf goal))
looped_pattern-tree = refl

looped_pattern-counts : counts looped_pattern ≡ record { groups = 2; loops = 2 }
looped_pattern-counts = refl

-- A brace that starts no quantifier is a literal; with the flag u it is rejected.
brace_alone : pattern_of plain (codes "a{2") ≡ Some (one (letters (codes "a{2")))
unfolding pattern_of
brace_alone = refl

brace_before_a_comma : pattern_of plain (codes "a{,5}") ≡ Some (one (letters (codes "a{,5}")))
unfolding pattern_of
brace_before_a_comma = refl

no_brace_alone_with_u : pattern_of unicode (codes "a{2") ≡ None
unfolding pattern_of
no_brace_alone_with_u = refl

no_quantifier_after_another : pattern_of plain (codes "a{2}{3}") ≡ None
unfolding pattern_of
no_quantifier_after_another = refl

no_quantifier_after_an_anchor : pattern_of plain (codes "^*") ≡ None
unfolding pattern_of
no_quantifier_after_an_anchor = refl

quantifier_after_a_boundary : pattern_of plain (codes "\\b+")
    ≡ Some (one (more_terms (atom (boundary no_flags false)) (Some (quantifier 1 None)) no_terms))
unfolding pattern_of
quantifier_after_a_boundary = refl

no_quantifier_out_of_order : pattern_of plain (codes "x{5,3}") ≡ None
unfolding pattern_of
no_quantifier_out_of_order = refl

-- Both numbers saturate.
great_numbers : pattern_of plain (codes "a{99999999999999999999}")
    ≡ Some (one (more_terms (letter 97) (Some (quantifier (2 ^ 64 - 1) (Some (2 ^ 64 - 1)))) no_terms))
unfolding pattern_of
great_numbers = refl

-- ---- escapes and classes

-- A class is no end of a range, so all three parts are members.
hyphen_after_a_class : pattern_of plain (codes "[\\d-z]")
    ≡ Some (one (word (atom (class no_flags false (run 48 57 ∷ run 45 45 ∷ run 122 122 ∷ [])))))
unfolding pattern_of
hyphen_after_a_class = refl

no_hyphen_after_a_class_with_u : pattern_of unicode (codes "[\\d-z]") ≡ None
unfolding pattern_of
no_hyphen_after_a_class_with_u = refl

-- The two halves of a surrogate pair are one character.
pair_of_halves : pattern_of plain (codes "\\uD83D\\uDE00") ≡ Some (one (word (letter 0x1F600)))
unfolding pattern_of
pair_of_halves = refl

-- `\0` before a digit starts an octal escape, and 8 is no octal digit.
octal_before_another_digit : pattern_of plain (codes "\\08") ≡ Some (one (letters (0 ∷ 56 ∷ [])))
unfolding pattern_of
octal_before_another_digit = refl

no_octal_with_u : pattern_of unicode (codes "\\08") ≡ None
unfolding pattern_of
no_octal_with_u = refl

-- ---- meaning

-- the letters in one group
abbrev captured : Pattern → Pattern
captured p = one (word (group (capture None) p))

module _ (setting : Setting) where
  -- `(a|b|b)` on "ba": from the start, the group captures the first character. A second equal outcome is dropped.
  two_ways : meaning setting (codes "ba") forwards
      (captured (either (word (letter 97)) (either (word (letter 98)) (one (word (letter 98))))))
      (record { position = 0; captures = None ∷ [] })
      ≡ record { position = 1; captures = Some (0, 1) ∷ [] } ∷ []
  unfolding one_character captures same_state
  two_ways = refl

  -- Backwards from the end, the last character is matched first. The smaller position is first in the span.
  after : meaning setting (codes "ba") backwards (captured (one (word (letter 97)))) (record { position = 2; captures = None ∷ [] })
      ≡ record { position = 1; captures = Some (1, 2) ∷ [] } ∷ []
  unfolding one_character captures
  after = refl
