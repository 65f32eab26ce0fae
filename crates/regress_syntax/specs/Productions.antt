-- The productions of the grammar without recursion, as functions of the source (ECMA-262, Patterns). Of two productions
-- that apply, the first in the list is used.
use Rattle.std.specs.Prelude.{ℕ, Bool, true, false, not, ◌&&◌, ◌||◌, [], ◌∷◌, drop, List, Option, Some, None, is_some, if◌then◌else◌, nat_le, ◌==◌}
use Rattle.std.specs.List.{list_any}
use Rattle.regress_base.specs.Intervals.{Bounds, intervals_of}
use Rattle.regress_base.specs.declared.types.Flags.{Flags}
use Rattle.regress_base.specs.declared.types.AnchorType.TheVariants.{StartOfLine, EndOfLine}
use Rattle.regress_base.specs.declared.types.Quantifier.{Quantifier}
use Rattle.regress_tree.specs.Steps.{Setting}
use Rattle.regress_tree.specs.Reading.{forwards, backwards}
use Rattle.regress_base.specs.Table.{Table}
use Rattle.regress_lexer.specs.declared.dialect.Dialect.{Dialect}
use Rattle.regress_lexer.specs.Dialects.{quantifies_boundaries, tries_references, keeps_listed_order, compiles_case}
use Rattle.regress_lexer.specs.Source.{Source, Found, ◌>>=◌, found_map, Production, when, otherwise, first_production, char, is_one_of, opening, full_stop, colon, question_mark, is_at, is_plain}
use Rattle.regress_lexer.specs.Digits.{is_between, is_decimal, number, front, after}
use Rattle.regress_lexer.specs.Escapes.{begins_with_letter, character_escape_at}
use Rattle.regress_lexer.specs.Quantifiers.{quantifier_at, is_ordered}
use Rattle.regress_classes.specs.declared.parameters.Parameters.{Parameters}
use Rattle.regress_classes.specs.Properties.{Property, of_points, of_strings, property_at}
use Rattle.regress_classes.specs.ClassProductions.{complement, class_letter, class_at}
use Rattle.regress_classes.specs.ClassSets.{class_set_at}
use Rattle.regress_unicode.specs.UppercaseClosure.{is_in_uppercase_closure}
use Rattle.regress_lexer.specs.Modifiers.{changed, modifiers_at}
use Rattle.regress_syntax.specs.Meaning.{longest_first}
use Rattle.regress_syntax.specs.Names.{group_name_at}
use Rattle.regress_syntax.specs.Syntax.{Name, is_named, Target, by_number, by_name, by_name_if_set, Atom, literal, dot, anchor, boundary, class_escape, class, class_set, string_property, back_reference, Group, grouping, modified, capture, look, Item, atom, group}

-- The context on which the productions depend besides the source: the dialect, the flags in force and the Unicode table,
-- and the number of capture groups of the whole pattern with their names, `None` for a group without a name.
pub record Context : Type 0 where
  pub dialect : Dialect
  pub setting : Setting
  pub groups : ℕ
  pub names : List (Option Name)

-- the context of a group's body
abbrev pub context_inside : Group → Context → Context
context_inside grouping ctx = ctx
context_inside (modified change) ctx = record ctx { setting = record ctx.setting { flags = changed change ctx.setting.flags } }
context_inside (capture name) ctx = ctx
context_inside (look negate direction) ctx = ctx

-- the start of an item: a whole item without a body, or the opening of a group
pub data Head : Type 0 where
  single : (a : Atom) → Head
  opens : (kind : Group) → Head

-- the start of this item
abbrev pub head_of_item : Item → Head
head_of_item (atom a) = single a
head_of_item (group kind p) = opens kind

-- a named group, starting at its `<`
abbrev pub named_group_at : Table → Source → Found Head
named_group_at table t = found_map (λ name. opens (capture (Some name))) (group_name_at table t)

-- a lookbehind or a named group, starting at its `<`
abbrev pub angle_at : Table → Source → Found Head
angle_at table t =
    if is_at (char "=") (drop 1 t) then Some (opens (look false backwards), drop 2 t)
    else if is_at (char "!") (drop 1 t) then Some (opens (look true backwards), drop 2 t)
    else named_group_at table t

-- a group with modifiers, starting at the first modifier
abbrev pub modified_at : Source → Found Head
modified_at t = found_map (λ change. opens (modified change)) (modifiers_at t)

-- what follows `(?`
abbrev pub after_question_mark_at : Table → Source → Found Head
after_question_mark_at table t =
    if is_at colon t then Some (opens grouping, drop 1 t)
    else if is_at (char "=") t then Some (opens (look false forwards), drop 1 t)
    else if is_at (char "!") t then Some (opens (look true forwards), drop 1 t)
    else if is_at (char "<") t then angle_at table t
    else modified_at t

-- What follows an opening parenthesis. Without `?` it opens a capture group without a name.
abbrev pub group_at : Table → Source → Found Head
group_at table t = if is_at question_mark t then after_question_mark_at table (drop 1 t) else Some (opens (capture None), t)

-- A quantifier may follow every item but `^` and `$`, and `\b` and `\B` only in some dialects.
abbrev pub atom_allows : Dialect → Atom → Bool
atom_allows dialect (literal flags c) = true
atom_allows dialect (dot flags) = true
atom_allows dialect (anchor flags kind) = false
atom_allows dialect (boundary flags inverted) = quantifies_boundaries dialect
atom_allows dialect (class_escape flags kind negated) = true
atom_allows dialect (class flags inverted members) = true
atom_allows dialect (class_set flags negated value) = true
atom_allows dialect (string_property flags written) = true
atom_allows dialect (back_reference flags to) = true

-- A quantifier may follow a lookahead only without the flag u, and no lookbehind (ECMA-262, QuantifiableAssertion).
abbrev pub group_allows : (unicode : Bool) → Group → Bool
group_allows unicode grouping = true
group_allows unicode (modified change) = true
group_allows unicode (capture name) = true
group_allows unicode (look negate forwards) = not unicode
group_allows unicode (look negate backwards) = false

-- A quantifier may follow an item that starts with this.
abbrev pub allows : Context → Head → Bool
allows ctx (single a) = atom_allows ctx.dialect a
allows ctx (opens kind) = group_allows ctx.setting.flags.unicode kind

-- 1 to 9
abbrev pub begins_number : ℕ → Bool
begins_number = is_between (char "1") (char "9")

-- some group has a name, and some group has this name
abbrev pub has_names : List (Option Name) → Bool
has_names names = list_any is_some names

abbrev pub has_name : Name → List (Option Name) → Bool
has_name name names = list_any (is_named name) names

-- what a reference by this name refers to
abbrev pub named_target : Dialect → Name → Target
named_target dialect name = if tries_references dialect then by_name name else by_name_if_set name

-- the parameters of the productions of a class
abbrev pub class_parameters : Context → Parameters
class_parameters ctx = record {
  dialect = ctx.dialect;
  icase = ctx.setting.flags.icase;
  unicode = ctx.setting.flags.unicode;
  named = has_names ctx.names;
}

-- Classes are compared by upper cases: with the flag i and without u, in some dialects.
abbrev pub compares_upper_cases : Context → Bool
compares_upper_cases ctx = compiles_case ctx.dialect && ctx.setting.flags.icase && not ctx.setting.flags.unicode

-- The flags of a class or class escape. A class that is compared by upper cases has all its characters, and of the class
-- escapes none has other variants, so the flag i is off.
abbrev pub class_flags : Context → Flags
class_flags ctx = if compares_upper_cases ctx then record ctx.setting.flags { icase = false } else ctx.setting.flags

-- the members of a class, with all characters that have the same upper case where these are compared (ECMA-262,
-- CharacterSetMatcher)
abbrev pub compared_members : Context → List Bounds → List Bounds
compared_members ctx members =
    if compares_upper_cases ctx then intervals_of (is_in_uppercase_closure ctx.setting.table members) else members

-- With the flag i the complement of a property is taken before the closure, and with v after it in some dialects
-- (ECMA-262, CompileToCharSet).
abbrev pub complements_first : Context → Bool
complements_first ctx = ctx.setting.flags.icase && not (compiles_case ctx.dialect && ctx.setting.flags.unicode_sets)

-- Without the flag u a backslash before a `c` that no letter follows is a literal, and the `c` is parsed next
-- (ECMA-262, B.1.2).
abbrev pub is_lone_backslash : (unicode : Bool) → ℕ → Source → Bool
is_lone_backslash unicode c t = c == char "c" && not unicode && not (begins_with_letter t)

module _ (ctx : Context) where
  -- the escape of one character
  abbrev pub character_at : ℕ → Source → Found Atom
  character_at c t = found_map (literal ctx.setting.flags) (character_escape_at ctx.dialect ctx.setting.flags.unicode (c ∷ t))

  -- a property of code points
  abbrev pub point_property : (negated : Bool) → List Bounds → Atom
  point_property negated members =
      if negated && complements_first ctx
      then class ctx.setting.flags false (complement members)
      else class ctx.setting.flags negated members

  -- the strings of a property, in the order in which they are tried
  abbrev pub ordered_strings : List (List ℕ) → List (List ℕ)
  ordered_strings written = if keeps_listed_order ctx.dialect then written else longest_first written

  -- A property. A property of strings has no complement.
  abbrev pub property_atom : (negated : Bool) → Property × Source → Found Atom
  property_atom negated (of_points members, t) = Some (point_property negated members, t)
  property_atom negated (of_strings written, t) = if negated then None else Some (string_property ctx.setting.flags (ordered_strings written), t)

  -- what follows `\p` or `\P`
  abbrev pub property_atom_at : (negated : Bool) → Source → Found Atom
  property_atom_at negated t =
      property_at ctx.setting.flags.unicode_sets ctx.setting.table t >>= property_atom negated

  -- A decimal number, the longest run of digits: a backreference if it is at most the number of groups. Otherwise it is
  -- a syntax error with the flag u, and the escape of a character without it (ECMA-262, B.1.2).
  abbrev pub number_reference_at : ℕ → Source → Found Atom
  number_reference_at c t =
      let group = number 10 (front is_decimal (c ∷ t)) in
      if nat_le group ctx.groups
      then Some (back_reference ctx.setting.flags (by_number group), after is_decimal (c ∷ t))
      else if ctx.setting.flags.unicode then None
      else character_at c t

  -- what follows `\k`: a name that some group has
  abbrev pub name_reference_at : Source → Found Atom
  name_reference_at t =
      group_name_at ctx.setting.table t >>= λ (name, rest).
      if has_name name ctx.names then Some (back_reference ctx.setting.flags (named_target ctx.dialect name), rest) else None

  -- the productions of an escape that is no class and begins with c, after its backslash
  abbrev pub escape_productions : ℕ → Source → List (Production Atom)
  escape_productions c t =
      when (c == char "b") (Some (boundary ctx.setting.flags false, t))
      ∷ when (c == char "B") (Some (boundary ctx.setting.flags true, t))
      ∷ when (is_lone_backslash ctx.setting.flags.unicode c t) (Some (literal ctx.setting.flags (char "\\"), char "c" ∷ t))
      ∷ when (is_one_of "pP" c && (ctx.setting.flags.unicode || ctx.setting.flags.unicode_sets)) (property_atom_at (c == char "P") t)
      ∷ when (begins_number c) (number_reference_at c t)
      -- Without the flag u and without named groups, `\k` is the escape of a character.
      ∷ when (c == char "k" && (ctx.setting.flags.unicode || has_names ctx.names)) (name_reference_at t)
      ∷ otherwise (character_at c t) ∷ []

  -- an escape that begins with c, after its backslash
  abbrev pub escaped_by : ℕ → Source → Found Atom
  escaped_by c t =
      elim (class_letter c) [
        | Some named ↦ Some (class_escape (class_flags ctx) named.0 named.1, t)
        | None ↦ first_production (escape_productions c t)
      ]

  -- an escape, after its backslash
  abbrev pub escaped_at : Source → Found Atom
  escaped_at [] = None
  escaped_at (c ∷ t) = escaped_by c t

  -- Without the flag u, `{`, `]` and `}` are literals, and a `{` only where it begins no quantifier (ECMA-262,
  -- ExtendedPatternCharacter).
  abbrev pub brace_by : ℕ → Source → Found Atom
  brace_by c t =
      if ctx.setting.flags.unicode || is_some (quantifier_at (c ∷ t)) then None else Some (literal ctx.setting.flags c, t)

  -- what follows `[`
  abbrev pub brackets_at : Source → Found Atom
  brackets_at t =
      if ctx.setting.flags.unicode_sets
      then found_map (λ (negated, value). class_set ctx.setting.flags negated value)
      (class_set_at ctx.setting.table (class_parameters ctx) t)
      else found_map (λ (inverted, members). class (class_flags ctx) inverted (compared_members ctx members))
      (class_at ctx.setting.table (class_parameters ctx) t)

  -- the productions of an item without a body whose first code point is c
  abbrev pub atom_productions : ℕ → Source → List (Production Atom)
  atom_productions c t =
      when (c == full_stop) (Some (dot ctx.setting.flags, t))
      ∷ when (c == char "^") (Some (anchor ctx.setting.flags StartOfLine, t))
      ∷ when (c == char "$") (Some (anchor ctx.setting.flags EndOfLine, t))
      ∷ when (c == char "\\") (escaped_at t)
      ∷ when (c == char "[") (brackets_at t)
      ∷ when (is_one_of "{]}" c) (brace_by c t)
      ∷ when (is_plain c) (Some (literal ctx.setting.flags c, t)) ∷ []

  -- an item without a body whose first code point is c
  abbrev pub atom_by : ℕ → Source → Found Atom
  atom_by c t = first_production (atom_productions c t)

  -- the start of an item whose first code point is c
  abbrev pub head_by : ℕ → Source → Found Head
  head_by c t = if c == opening then group_at ctx.setting.table t else found_map single (atom_by c t)

  -- the start of the item at the start of the source
  unfoldable pub head_at : Source → Found Head
  head_at [] = None
  head_at (c ∷ t) = head_by c t

  -- No quantifier begins here. With the flag u a `{` has to begin one.
  abbrev pub no_quantifier_at : Source → Found (Option Quantifier)
  no_quantifier_at t = if ctx.setting.flags.unicode && is_at (char "{") t then None else Some (None, t)

  -- A quantifier that is allowed, with a minimum that is at most its maximum.
  abbrev pub this_quantifier : Bool → Quantifier × Source → Found (Option Quantifier)
  this_quantifier allowed (q, t) = if allowed && is_ordered q then Some (Some q, t) else None

  -- the quantifier after an item, or `None` if none begins here
  unfoldable pub optional_quantifier_at : (allowed : Bool) → Source → Found (Option Quantifier)
  optional_quantifier_at allowed t = elim (quantifier_at t) [ None ↦ no_quantifier_at t | Some found ↦ this_quantifier allowed found ]
