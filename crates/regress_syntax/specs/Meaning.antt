-- What a pattern matches, over the characters of a text (ECMA-262, CompileSubpattern).
use Rattle.std.specs.Prelude.{ℕ, zero, suc, ◌+◌, ◌-◌, ◌==◌, Bool, not, ◌&&◌, ◌||◌, List, [], ◌∷◌, ◌++◌, length, filter, Option, Some, None, if◌then◌else◌}
use Rattle.std.specs.List.{concat}
use Rattle.regress_base.specs.Intervals.{Bounds, is_member}
use Rattle.regress_base.specs.declared.types.Flags.{Flags}
use Rattle.regress_base.specs.declared.types.Quantifier.{Quantifier}
use Rattle.regress_unicode.specs.declared.Tables.{Tables}
use Rattle.regress_unicode.specs.TableOf.{table_of}
use Rattle.regress_tree.specs.Reading.{Direction, forwards, backwards, of_characters}
use Rattle.regress_tree.specs.Steps.{Matcher, dedup, stay, fail, ◌then_◌, ◌or_◌, one_character, hold_at, Setting}
use Rattle.regress_tree.specs.Steps as Steps
use Rattle.regress_tree.specs.Lookaround as Lookaround
use Rattle.regress_tree.specs.References as References
use Rattle.regress_base.specs.Table.{Table, denotes, is_in_closure}
use Rattle.regress_tree.specs.Assertions.{is_line_terminator, is_word_character, at_anchor, differ, at_boundary}
use Rattle.regress_tree.specs.Repetition.{repeat_matcher}
use Rattle.regress_classes.specs.ClassProductions.{members_of}
use Rattle.regress_syntax.specs.Syntax.{Name, Target, by_number, by_name, by_name_if_set, is_joined, Atom, literal, dot, anchor, boundary, class_escape, class, class_set, string_property, back_reference, Group, grouping, modified, capture, look, Pattern, Terms, Item, one, either, no_terms, more_terms, atom, group, opened_by, counts_of_item, counts_of_terms, counts_of_term, names, groups_named, direction_of_group}

-- the setting of a match: the flags, and the table in the value
abbrev pub setting_of : Flags → Tables → Setting
setting_of flags tables = record { flags = flags; table = table_of tables }

-- A character matches the literal c: it is equal to c or, with the flag i, has the same canonical form (ECMA-262,
-- Canonicalize).
abbrev pub is_literal : Table → Flags → ℕ → ℕ → Bool
is_literal table flags = denotes table flags.icase flags.unicode

-- A character matches `.`: any but a line terminator, and with the flag s any at all (ECMA-262, CompileAtom).
abbrev pub is_any : Flags → ℕ → Bool
is_any flags x = flags.dot_all || not (is_line_terminator x)

-- the word characters of `\b`, closed under case folding if both flags u and i are set (ECMA-262, WordCharacters)
abbrev pub is_in_word : Table → Flags → ℕ → Bool
is_in_word table flags = is_word_character table (flags.unicode && flags.icase)

-- A character matches a class with these members: with the flag i it is in the closure of the members, also without the
-- flag u (dialect). The class is inverted last (ECMA-262, CharacterSetMatcher).
abbrev pub is_in_class : Table → Flags → (inverted : Bool) → List Bounds → ℕ → Bool
is_in_class table flags inverted members x =
    differ inverted (if flags.icase then is_in_closure table members x else is_member members x)

-- a sequence of two matchers, in reverse order where matching runs backwards (ECMA-262, CompileSubpattern of
-- Alternative)
abbrev pub along : Direction → Matcher → Matcher → Matcher
along forwards f g = f then_ g
along backwards f g = g then_ f

-- a group around a body, where n capture groups were opened before it
abbrev pub group_steps : ℕ → Group → Matcher → Matcher
group_steps n grouping body = body
group_steps n (modified change) body = body
group_steps n (capture name) body = Steps.capture n body
group_steps n (look negate direction) body = Lookaround.lookaround_matcher negate body

-- The numbers, from 1, of the groups that a reference names, in ascending order. The list has the names of all groups
-- of the pattern.
abbrev pub referred : List (Option Name) → Target → List ℕ
referred all (by_number k) = k ∷ []
referred all (by_name name) = groups_named name 1 all
referred all (by_name_if_set name) = groups_named name 1 all

-- references to these groups, tried in order as alternatives are
abbrev pub any_reference : (ℕ → Matcher) → List ℕ → Matcher
any_reference refer [] = fail
any_reference refer (k ∷ []) = refer k
any_reference refer (k ∷ next ∷ ks) = refer k or_ any_reference refer (next ∷ ks)

-- references to these groups, one after the other
abbrev pub each_reference : (ℕ → Matcher) → List ℕ → Matcher
each_reference refer [] = stay
each_reference refer (k ∷ ks) = refer k then_ each_reference refer ks

-- references to these groups: tried in order, or joined
abbrev pub reference_steps : (joined : Bool) → (ℕ → Matcher) → List ℕ → Matcher
reference_steps joined refer ks = if joined then each_reference refer ks else any_reference refer ks

-- A quantified item, whose captures are those of the groups start to end - 1 (ECMA-262, RepeatMatcher). Length + 1
-- iterations suffice, since no more can each consume something in a text of this length.
abbrev pub quantified_steps : (length : ℕ) → Option Quantifier → (start end : ℕ) → Matcher → Matcher
quantified_steps length None start end body = body
quantified_steps length (Some q) start end body = repeat_matcher (length + 1) q start end body

-- the strings of fewer than n code points: those of n - 1 first, then the shorter ones
abbrev pub shorter_than : ℕ → List (List ℕ) → List (List ℕ)
shorter_than zero ss = []
shorter_than (suc n) ss = filter (λ s. length s == n) ss ++ shorter_than n ss

-- The strings of a class in the order in which they are tried: the longest first, and strings of equal length in the
-- order of the pattern. None is longer than all of them concatenated.
abbrev pub longest_first : List (List ℕ) → List (List ℕ)
longest_first ss = shorter_than (length (concat ss) + 1) ss

-- The names are those of all groups of the whole pattern.
module _ (setting : Setting) (names : List (Option Name)) (text : List ℕ) where
  -- the strings tried in order, each matched character by character as a backreference is
  abbrev pub one_of_strings : Direction → Flags → List (List ℕ) → Matcher
  one_of_strings d flags =
      References.any_string d (of_characters text) (denotes setting.table flags.icase setting.flags.unicode)

  abbrev pub atom_steps : Direction → Atom → Matcher
  atom_steps d (literal flags c) = one_character d (of_characters text) (is_literal setting.table flags c)
  atom_steps d (dot flags) = one_character d (of_characters text) (is_any flags)
  atom_steps d (anchor flags kind) = hold_at (at_anchor (of_characters text) kind flags.multiline)
  atom_steps d (boundary flags inverted) = hold_at (at_boundary (of_characters text) (is_in_word setting.table flags) inverted)
  atom_steps d (class_escape flags kind negated) =
      one_character d (of_characters text) (is_in_class setting.table flags negated (members_of kind))
  atom_steps d (class flags inverted members) =
      one_character d (of_characters text) (is_in_class setting.table flags inverted members)
  -- first the strings of two or more code points, then one code point of the set, last the empty string
  atom_steps d (class_set flags negated value) =
      one_of_strings d flags (longest_first value.strings)
      or_ one_character d (of_characters text) (is_in_class setting.table flags negated value.members)
      or_ (if value.has_empty then stay else fail)
  atom_steps d (string_property flags written) = one_of_strings d flags written
  -- No group changes the flag u, so the flag is that of the setting.
  atom_steps d (back_reference flags to) =
      reference_steps (is_joined to) (λ k. References.back_reference d (of_characters text) (denotes setting.table flags.icase setting.flags.unicode) (k - 1))
      (referred names to)

  -- the outcomes, with duplicates, of a part of the pattern that follows n opened capture groups
  abbrev mutual
    pub pattern_steps : Direction → ℕ → Pattern → Matcher
    pattern_steps d n (one ts) = terms_steps d n ts
    pattern_steps d n (either ts p) = terms_steps d n ts or_ pattern_steps d (n + (counts_of_terms ts).groups) p

    pub terms_steps : Direction → ℕ → Terms → Matcher
    terms_steps d n no_terms = stay
    terms_steps d n (more_terms x q xs) =
        along d (quantified_steps (length text) q n (n + (counts_of_item x).groups) (item_steps d n x))
        (terms_steps d (n + (counts_of_term x q).groups) xs)

    pub item_steps : Direction → ℕ → Item → Matcher
    item_steps d n (atom a) = atom_steps d a
    item_steps d n (group kind p) = group_steps n kind (pattern_steps (direction_of_group kind d) (n + opened_by kind) p)

-- what a pattern matches: its distinct outcomes in order of preference (ECMA-262, CompilePattern)
abbrev pub meaning : Setting → List ℕ → Direction → Pattern → Matcher
meaning setting text d p s = dedup (pattern_steps setting (names p) text d 0 p s)
