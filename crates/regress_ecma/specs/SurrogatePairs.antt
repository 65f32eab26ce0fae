-- Patterns that match the same in a string of UTF-16 and in its code points (ECMA-262, 11.1.4): each atom matches characters
-- that are not surrogates and at most U+FFFF, and a match has at least one of them, so that none begins within a pair.
use Rattle.std.specs.Prelude.{ℕ, Bool, true, false, not, ◌&&◌, ◌||◌, ◌==◌, List, length, Option, Some, None, if◌then◌else◌, nat_le, nat_lt}
use Rattle.std.specs.List.{list_all}
use Rattle.regress_base.specs.Intervals.{Bounds, intervals_of}
use Rattle.regress_base.specs.Table.{Table, class_of}
use Rattle.regress_base.specs.declared.types.Quantifier.{Quantifier}
use Rattle.regress_classes.specs.ClassProductions.{members_of}
use Rattle.regress_syntax.specs.Meaning.{is_in_class, referred}
use Rattle.regress_syntax.specs.Syntax.{Name, names, is_joined, Atom, literal, dot, anchor, boundary, class_escape, class, class_set, string_property, back_reference, grouping, modified, capture, look, Pattern, Terms, Item, one, either, no_terms, more_terms, atom, group}

-- no surrogate, and at most U+FFFF
abbrev pub is_outside_pairs : ℕ → Bool
is_outside_pairs c = nat_lt c 0xD800 || (nat_le 0xE000 c && nat_le c 0xFFFF)

-- all characters of the interval are
abbrev pub is_interval_outside : Bounds → Bool
is_interval_outside b = nat_lt b.last 0xD800 || (nat_le 0xE000 b.first && nat_le b.last 0xFFFF)

-- all characters of the set are
abbrev pub are_outside_pairs : List Bounds → Bool
are_outside_pairs = list_all is_interval_outside

-- There is at least one iteration.
abbrev pub is_required : Option Quantifier → Bool
is_required None = true
is_required (Some q) = not (q.min == 0)

-- ---- patterns

-- The names are those of all groups of the pattern.
module _ (table : Table) (all : List (Option Name)) where
  -- The atom matches only such characters, or none. Strings and back references are left out, unless there is no group to
  -- refer to.
  abbrev pub atom_is_outside : Atom → Bool
  atom_is_outside (literal flags c) =
      if flags.icase then list_all is_outside_pairs (class_of table true flags.unicode c) else is_outside_pairs c
  atom_is_outside (dot flags) = false
  atom_is_outside (anchor flags kind) = true
  atom_is_outside (boundary flags inverted) = not (flags.unicode && flags.icase)
  atom_is_outside (class_escape flags kind negated) = are_outside_pairs (intervals_of (is_in_class table flags negated (members_of kind)))
  atom_is_outside (class flags inverted members) = not inverted && are_outside_pairs (intervals_of (is_in_class table flags false members))
  atom_is_outside (class_set flags negated value) =
      length value.strings == 0 && (not negated && are_outside_pairs (intervals_of (is_in_class table flags false value.members)))
  atom_is_outside (string_property flags written) = false
  atom_is_outside (back_reference flags to) = length (referred all to) == 0

  -- all atoms are
  abbrev mutual
    pub is_outside : Pattern → Bool
    is_outside (one ts) = are_terms_outside ts
    is_outside (either ts p) = are_terms_outside ts && is_outside p

    pub are_terms_outside : Terms → Bool
    are_terms_outside no_terms = true
    are_terms_outside (more_terms x q xs) = is_item_outside x && are_terms_outside xs

    pub is_item_outside : Item → Bool
    is_item_outside (atom a) = atom_is_outside a
    is_item_outside (group kind p) = is_outside p

  -- The atom matches at least one character.
  abbrev pub atom_consumes : Atom → Bool
  atom_consumes (literal flags c) = true
  atom_consumes (dot flags) = true
  atom_consumes (anchor flags kind) = false
  atom_consumes (boundary flags inverted) = false
  atom_consumes (class_escape flags kind negated) = true
  atom_consumes (class flags inverted members) = true
  atom_consumes (class_set flags negated value) = not value.has_empty
  atom_consumes (string_property flags written) = true
  -- with no group to refer to, one that is not joined matches nothing
  atom_consumes (back_reference flags to) = length (referred all to) == 0 && not (is_joined to)

  -- Each match has at least one character: some term does, with a quantifier that requires it.
  abbrev mutual
    pub consumes : Pattern → Bool
    consumes (one ts) = terms_consume ts
    consumes (either ts p) = terms_consume ts && consumes p

    pub terms_consume : Terms → Bool
    terms_consume no_terms = false
    terms_consume (more_terms x q xs) = (is_required q && item_consumes x) || terms_consume xs

    pub item_consumes : Item → Bool
    item_consumes (atom a) = atom_consumes a
    item_consumes (group grouping p) = consumes p
    item_consumes (group (modified change) p) = consumes p
    item_consumes (group (capture name) p) = consumes p
    item_consumes (group (look negate direction) p) = false

-- Both hold of the pattern.
abbrev pub matches_outside_pairs : Table → Pattern → Bool
matches_outside_pairs table p = is_outside table (names p) p && consumes table (names p) p
