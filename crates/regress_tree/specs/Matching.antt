-- What a tree matches, over the bytes of a text (ECMA-262, CompileSubpattern).
use Rattle.std.specs.Prelude.{ℕ, ◌+◌, ◌-◌, true, not, ◌==◌, List, length, if◌then◌else◌}
use Rattle.regress_base.specs.Brackets.{is_accepted}
use Rattle.regress_base.specs.Listing.{lists}
use Rattle.regress_base.specs.Table.{denotes}
use Rattle.regress_tree.specs.Reading.{Direction, forwards, backwards, of_bytes}
use Rattle.regress_tree.specs.Steps.{Matcher, dedup, stay, ◌then_◌, ◌or_◌, one_character, these_bytes, hold_at, capture, Setting}
use Rattle.regress_tree.specs.Assertions.{is_line_terminator, is_word_character, at_anchor, at_boundary}
use Rattle.regress_tree.specs.Repetition.{repeat_matcher}
use Rattle.regress_tree.specs.Lookaround.{lookaround_matcher}
use Rattle.regress_tree.specs.References.{back_reference, any_string}
use Rattle.regress_tree.specs.Tree.{Leaf, empty, goal, char, byte_sequence, byte_set, char_set, match_any, match_any_except_line_terminator, anchor, word_boundary, bracket, back_ref, string_set, Wrapper, capture_group, loop, loop_one, lookaround, Tree, Trees, leaf, cat, alt, wrapped, no_trees, more_trees, reverse_trees}

-- A list of parts, in the order of the text, in the order of matching; and the other way round.
abbrev pub in_direction : Direction → Trees → Trees
in_direction forwards ts = ts
in_direction backwards ts = reverse_trees ts

-- the direction in which the body of a wrapper is matched
abbrev pub direction_in : Wrapper → Direction → Direction
direction_in (lookaround negate looks_back start end) d = if looks_back then backwards else forwards
direction_in w d = d

module _ (setting : Setting) (bytes : List ℕ) where
  -- the outcomes of a leaf
  abbrev pub leaf_steps : Direction → Leaf → Matcher
  leaf_steps d empty = stay
  leaf_steps d goal = stay
  leaf_steps d (char c) = one_character d (of_bytes bytes) (λ x. x == c)
  leaf_steps d (byte_sequence written) = these_bytes d bytes written
  leaf_steps d (byte_set members) = one_character d (of_bytes bytes) (lists members)
  leaf_steps d (char_set members) = one_character d (of_bytes bytes) (lists members)
  leaf_steps d match_any = one_character d (of_bytes bytes) (λ x. true)
  leaf_steps d match_any_except_line_terminator = one_character d (of_bytes bytes) (λ x. not (is_line_terminator x))
  leaf_steps d (anchor kind multiline) = hold_at (at_anchor (of_bytes bytes) kind multiline)
  leaf_steps d (word_boundary invert unicode_icase) =
      hold_at (at_boundary (of_bytes bytes) (is_word_character setting.table unicode_icase) invert)
  leaf_steps d (bracket invert intervals) = one_character d (of_bytes bytes) (is_accepted invert intervals)
  leaf_steps d (back_ref group icase) =
      back_reference d (of_bytes bytes) (denotes setting.table icase setting.flags.unicode) (group - 1)
  leaf_steps d (string_set strings icase) =
      any_string d (of_bytes bytes) (denotes setting.table icase setting.flags.unicode) strings

  -- the outcomes of a wrapper, by the matcher of its body
  abbrev pub wrapper_steps : Wrapper → Matcher → Matcher
  wrapper_steps (capture_group id name) body = capture id body
  wrapper_steps (loop quantifier start end) body = repeat_matcher (length bytes + 1) quantifier start end body
  wrapper_steps (loop_one quantifier) body = repeat_matcher (length bytes + 1) quantifier 0 0 body
  wrapper_steps (lookaround negate looks_back start end) body = lookaround_matcher negate body

  -- the outcomes of a tree, with duplicates
  abbrev mutual
    pub steps : Direction → Tree → Matcher
    steps d (leaf l) = leaf_steps d l
    -- the parts in the order of the list, in both directions
    steps d (cat parts) = steps_of_parts d parts
    steps d (alt left right) = steps d left or_ steps d right
    steps d (wrapped w body) = wrapper_steps w (steps (direction_in w d) body)

    pub steps_of_parts : Direction → Trees → Matcher
    steps_of_parts d no_trees = stay
    steps_of_parts d (more_trees t ts) = steps d t then_ steps_of_parts d ts

  -- what a tree matches: its distinct outcomes in their order
  abbrev pub matches : Direction → Tree → Matcher
  matches d t s = dedup (steps d t s)
