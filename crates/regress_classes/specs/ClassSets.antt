-- Classes with the flag v (dialect of ECMA-262, ClassSetExpression).
use Rattle.std.specs.Prelude.{ℕ, zero, suc, ◌+◌, max, Bool, true, false, not, ◌&&◌, ◌||◌, List, [], ◌∷◌, ◌++◌, length, drop, filter, map, Option, Some, None, if◌then◌else◌, ◌==◌}
use Rattle.std.specs.List.{list_any}
use Rattle.std.specs.Str.{bytes_eq}
use Rattle.regress_base.specs.Intervals.{Bounds, is_member, intervals_of}
use Rattle.regress_base.specs.Limits.{max_nesting_depth}
use Rattle.regress_base.specs.Table.{Table}
use Rattle.regress_lexer.specs.Source.{Source, Found, ◌>>=◌, found_map, Production, when, otherwise, first_production, char, is_one_of, is_at}
use Rattle.regress_lexer.specs.Escapes.{escape_at}
use Rattle.regress_lexer.specs.declared.dialect.Dialect.{Dialect}
use Rattle.regress_lexer.specs.Dialects.{reserves_pairs, isolates_ampersand, judges_contents}
use Rattle.regress_classes.specs.declared.parameters.Parameters.{Parameters}
use Rattle.regress_classes.specs.Properties.{Property, of_points, of_strings, property_at}
use Rattle.regress_classes.specs.ClassProductions.{complement_if, closes, closed_members, class_letter, class_members, one_point, points_between}

-- ---- contents of a class

-- The contents of a class: code points, in intervals that may overlap; the strings of two or more characters, in the
-- order in which they were parsed and with repeats; whether it has the empty string; whether what is written may contain
-- strings (ECMA-262, MayContainStrings); and how deep the classes in it nest.
pub record Value : Type 0 where
  pub members : List Bounds
  pub strings : List (List ℕ)
  pub has_empty : Bool
  pub may_have_strings : Bool
  pub nesting : ℕ

-- the contents of the empty class `[]`
abbrev pub nothing : Value
nothing = record { members = []; strings = []; has_empty = false; may_have_strings = false; nesting = 0 }

-- whether it has a string, which may be the empty one
abbrev pub has_strings : Value → Bool
has_strings v = not (length v.strings == 0) || v.has_empty

-- these code points alone
abbrev pub only : List Bounds → Value
only members = record nothing { members = members }

-- the union of both
abbrev pub joined : Value → Value → Value
joined a b = record {
  members = a.members ++ b.members;
  strings = a.strings ++ b.strings;
  has_empty = a.has_empty || b.has_empty;
  may_have_strings = a.may_have_strings || b.may_have_strings;
  nesting = max a.nesting b.nesting;
}

-- a first value combined with each of the others in order
abbrev pub folded_left : (Value → Value → Value) → Value → List Value → Value
folded_left f first [] = first
folded_left f first (next ∷ rest) = folded_left f (f first next) rest

-- whether the string is one of the strings
abbrev pub is_among : List (List ℕ) → List ℕ → Bool
is_among strings s = list_any (λ other. bytes_eq other s) strings

-- `&&`: the intersection (ECMA-262, ClassIntersection)
abbrev pub common : Value → Value → Value
common a b = record {
  members = intervals_of (λ c. is_member a.members c && is_member b.members c);
  strings = filter (is_among b.strings) a.strings;
  has_empty = a.has_empty && b.has_empty;
  may_have_strings = a.may_have_strings && b.may_have_strings;
  nesting = max a.nesting b.nesting;
}

-- `--`: the difference of the first and the second (ECMA-262, ClassSubtraction)
abbrev pub without : Value → Value → Value
without a b = record {
  members = intervals_of (λ c. is_member a.members c && not (is_member b.members c));
  strings = filter (λ s. not (is_among b.strings s)) a.strings;
  has_empty = a.has_empty && not b.has_empty;
  may_have_strings = a.may_have_strings;
  nesting = max a.nesting b.nesting;
}

-- A string of one character is a code point.
abbrev pub value_of_string : List ℕ → Value
value_of_string [] = record nothing { has_empty = true; may_have_strings = true }
value_of_string (c ∷ []) = only (one_point c)
value_of_string (c ∷ d ∷ cs) = record nothing { strings = (c ∷ d ∷ cs) ∷ []; may_have_strings = true }

-- the contents of a class with these strings
abbrev pub value_of_strings : List (List ℕ) → Value
value_of_strings [] = nothing
value_of_strings (s ∷ ss) = joined (value_of_string s) (value_of_strings ss)

module _ (table : Table) (parameters : Parameters) where
  -- the strings, and if `closes` with each character folded
  abbrev pub folded_strings : List (List ℕ) → List (List ℕ)
  folded_strings strings = if closes parameters then map (map table.fold) strings else strings

  -- the contents with closed code points and folded strings, so that operators compare canonical forms (ECMA-262,
  -- MaybeSimpleCaseFolding)
  abbrev pub closed_value : Value → Value
  closed_value v = record v { members = closed_members table parameters v.members; strings = folded_strings v.strings }

-- a class inside another class, where an inverted class is its complement already (ECMA-262, NestedClass)
abbrev pub nested : Bool × Value → Value
nested (negated, v) = record v { members = complement_if negated v.members; nesting = v.nesting + 1 }

-- The class may not be negated: it has strings, or in some dialects what is written may contain them.
abbrev pub is_not_negatable : Dialect → Value → Bool
is_not_negatable dialect v = has_strings v || (not (judges_contents dialect) && v.may_have_strings)

-- a class, unless it is negated and has strings
abbrev pub unless_negated_strings : Dialect → Bool → Value × Source → Found (Bool × Value)
unless_negated_strings dialect negated (v, t) = if negated && is_not_negatable dialect v then None else Some ((negated, v), t)

-- ---- operands

-- An operand is a character, which may be an end of a range, or a set of code points and strings (ECMA-262,
-- ClassSetOperand).
pub data Operand : Type 0 where
  character : (c : ℕ) → Operand
  class : (value : Value) → Operand

-- the contents of a class with this operand alone
abbrev pub value_of : Operand → Value
value_of (character c) = only (one_point c)
value_of (class value) = value

-- the same, closed, as operators have it
abbrev pub closed_value_of : Table → Parameters → Operand → Value
closed_value_of table parameters operand = closed_value table parameters (value_of operand)

-- both ends of a range are characters (ECMA-262, ClassSetRange)
abbrev pub range_of : Operand → Operand → Option (List Bounds)
range_of (character a) (character b) = points_between a b
range_of (character a) (class others) = None
range_of (class value) last = None

-- code points that are literals only after a backslash, or never
abbrev pub is_set_syntax : ℕ → Bool
is_set_syntax c = is_one_of "()[]{}/-|\\" c

-- a literal that may not be followed by itself, and in some dialects by no other of these
abbrev pub is_double : ℕ → Bool
is_double c = is_one_of "&!#$%*+,.:;<=>?@^`~" c

-- whether the source starts with such a literal
abbrev pub begins_double : Source → Bool
begins_double [] = false
begins_double (c ∷ t) = is_double c

-- whether c before t begins two such literals that may not follow each other
abbrev pub begins_pair : Dialect → ℕ → Source → Bool
begins_pair dialect c t = is_double c && (if reserves_pairs dialect then begins_double t else is_at c t)

-- a literal after a backslash (ECMA-262, ClassSetReservedPunctuator)
abbrev pub is_reserved : ℕ → Bool
is_reserved c = is_one_of "&-!#%,:;<=>@`~" c

-- an escape of one character, after its backslash; `\b` is backspace
abbrev pub escaped_character_at : (unicode : Bool) → Source → Found ℕ
escaped_character_at unicode [] = None
escaped_character_at unicode (c ∷ t) =
    if c == char "b" then Some (8, t)
    else if is_reserved c then Some (c, t)
    else escape_at unicode (c ∷ t)

-- one character (ECMA-262, ClassSetCharacter)
unfoldable pub set_character_at : Parameters → Source → Found ℕ
set_character_at parameters [] = None
set_character_at parameters (c ∷ t) =
    if c == char "\\" then escaped_character_at parameters.unicode t
    else if is_set_syntax c || begins_pair parameters.dialect c t then None
    else Some (c, t)

-- After `\q{`, and after the characters s of a string: strings with `|` between them, up to `}`. The number bounds the
-- number of code points.
unfoldable pub strings_by : ℕ → Parameters → (s : List ℕ) → Source → Found (List (List ℕ))
strings_by zero parameters s t = None
strings_by (suc n) parameters s t =
    if is_at (char "}") t then Some (s ∷ [], drop 1 t)
    else if is_at (char "|") t then found_map (λ ss. s ∷ ss) (strings_by n parameters [] (drop 1 t))
    else set_character_at parameters t >>= λ (c, rest). strings_by n parameters (s ++ c ∷ []) rest

-- the strings after `\q` (ECMA-262, ClassStringDisjunction)
abbrev pub quoted_at : Parameters → Source → Found Operand
quoted_at parameters t =
    if is_at (char "{") t
    then found_map (λ ss. class (value_of_strings ss)) (strings_by (length t) parameters [] (drop 1 t))
    else None

module _ (table : Table) (parameters : Parameters) where
  -- the contents of a property in a class; one of strings has no complement, and is not allowed directly in a negated
  -- class
  abbrev pub property_operand : (in_negated negated : Bool) → Property × Source → Found Operand
  property_operand in_negated negated (of_points members, t) =
      Some (class (only (complement_if negated (closed_members table parameters members))), t)
  property_operand in_negated negated (of_strings written, t) =
      if in_negated || negated then None else Some (class (value_of_strings written), t)

  -- the property after `\p` or `\P`
  abbrev pub property_operand_at : (in_negated negated : Bool) → Source → Found Operand
  property_operand_at in_negated negated t = property_at true table t >>= property_operand in_negated negated

-- whether an operator, the same code point twice, is at the start of a source
abbrev pub are_at : ℕ → Source → Bool
are_at c t = is_at c t && is_at c (drop 1 t)

module _ (table : Table) (parameters : Parameters) where
  -- the productions of an escape that starts with c and is no class escape, after its backslash
  abbrev pub operand_productions : (in_negated : Bool) → ℕ → Source → List (Production Operand)
  operand_productions in_negated c t =
      when (c == char "q") (quoted_at parameters t)
      ∷ when (is_one_of "pP" c) (property_operand_at table parameters in_negated (c == char "P") t)
      ∷ otherwise (found_map character (escaped_character_at parameters.unicode (c ∷ t))) ∷ []

  -- an escape, after its backslash
  abbrev pub escaped_operand_at : (in_negated : Bool) → Source → Found Operand
  escaped_operand_at in_negated [] = None
  escaped_operand_at in_negated (c ∷ t) =
      elim (class_letter c) [
        | Some named ↦ Some (class (only (class_members table parameters named)), t)
        | None ↦ first_production (operand_productions in_negated c t)
      ]

  -- In what follows, `inner` parses a class after its `[`, and `in_negated` means that the class around is negated and
  -- judged by its contents.
  module _ (inner : Source → Found (Bool × Value)) (in_negated : Bool) where
    -- an operand: a nested class, an escape, or a character (ECMA-262, ClassSetOperand)
    unfoldable pub operand_at : Source → Found Operand
    operand_at t =
        if is_at (char "[") t then found_map (λ inside. class (nested inside)) (inner (drop 1 t))
        else if is_at (char "\\") t then escaped_operand_at in_negated (drop 1 t)
        else found_map character (set_character_at parameters t)

    -- ---- unions (ECMA-262, ClassUnion)

    -- a range, after its first end and the hyphen (ECMA-262, ClassSetRange)
    abbrev pub range_at : Operand → Source → Found Value
    range_at first t =
        operand_at t >>= λ (last, rest).
        elim (range_of first last) [ None ↦ None | Some members ↦ Some (only members, rest) ]

    -- a part after its first operand: a hyphen always makes a range
    abbrev pub part_after : Operand × Source → Found Value
    part_after (first, t) = if is_at (char "-") t then range_at first (drop 1 t) else Some (value_of first, t)

    -- The parts up to `]`. The number bounds the number of parts.
    unfoldable pub parts_by : ℕ → Source → Found (List Value)
    parts_by zero t = None
    parts_by (suc n) t =
        if is_at (char "]") t then Some ([], drop 1 t)
        else operand_at t >>= part_after >>= λ (part, rest). found_map (λ parts. part ∷ parts) (parts_by n rest)

    abbrev pub parts_at : Source → Found (List Value)
    parts_at t = parts_by (length t + 1) t

    -- ---- operators

    -- The operand after an operator that is c twice. In some dialects it does not begin with c.
    abbrev pub next_operand_at : (c : ℕ) → Source → Found Operand
    next_operand_at c t = if not (isolates_ampersand parameters.dialect) && is_at c t then None else operand_at t

    -- The operands after an operator that is c twice, up to `]`, with that operator between them. The number bounds the
    -- number of operands.
    unfoldable pub operands_by : ℕ → (c : ℕ) → Source → Found (List Value)
    operands_by zero c t = None
    operands_by (suc n) c t =
        next_operand_at c t >>= λ (operand, rest).
        (if is_at (char "]") rest then Some (closed_value_of table parameters operand ∷ [], drop 1 rest)
        else if are_at c rest
        then found_map (λ others. closed_value_of table parameters operand ∷ others) (operands_by n c (drop 2 rest))
        else None)

    abbrev pub operands_at : (c : ℕ) → Source → Found (List Value)
    operands_at c t = operands_by (length t + 1) c t

    -- ---- contents of a class: one of five productions

    -- the contents after the first operand, by what follows it
    abbrev pub contents_after : Operand × Source → Found Value
    contents_after (first, t) =
        -- operands joined by `&&`
        if are_at (char "&") t
        then found_map (folded_left common (closed_value_of table parameters first)) (operands_at (char "&") (drop 2 t))
        -- operands joined by `--`
        else if are_at (char "-") t
        then found_map (folded_left without (closed_value_of table parameters first)) (operands_at (char "-") (drop 2 t))
        -- parts, with a single `&` after the first operand, where that is a member and starts no range
        else if is_at (char "&") t && isolates_ampersand parameters.dialect
        then found_map (λ parts. folded_left joined (value_of first) (only (one_point (char "&")) ∷ parts)) (parts_at (drop 1 t))
        -- a first part, and the parts after it; a single operand is a part too
        else part_after (first, t) >>= λ (part, rest). found_map (folded_left joined part) (parts_at rest)

    -- all contents up to the `]`: nothing, or what starts with a first operand
    abbrev pub contents_at : Source → Found Value
    contents_at t = if is_at (char "]") t then Some (nothing, drop 1 t) else operand_at t >>= contents_after

    -- the same, closed
    abbrev pub closed_contents_at : Source → Found Value
    closed_contents_at t = found_map (closed_value table parameters) (contents_at t)

  -- A class after its `[`: whether it is negated, and its contents. The number bounds how deep classes nest, the class
  -- itself included.
  unfoldable pub class_set_by : ℕ → Source → Found (Bool × Value)
  class_set_by zero t = None
  class_set_by (suc n) t =
      let negated = is_at (char "^") t in
      closed_contents_at (class_set_by n) (negated && judges_contents parameters.dialect) (if negated then drop 1 t else t)
      >>= unless_negated_strings parameters.dialect negated

  -- a class that nests no deeper than the limit
  abbrev pub class_set_at : Source → Found (Bool × Value)
  class_set_at t = class_set_by max_nesting_depth t
