-- Classes without the flag v (ECMA-262, CharacterClass, with annex B).
use Rattle.std.specs.Prelude.{ℕ, zero, suc, ◌+◌, Bool, true, false, not, ◌&&◌, ◌||◌, List, [], ◌∷◌, ◌++◌, length, drop, Option, Some, None, if◌then◌else◌, nat_le, ◌==◌}
use Rattle.regress_base.specs.declared.charclasses.CharacterClassType.{CharacterClassType}
use Rattle.regress_base.specs.declared.charclasses.CharacterClassType.TheVariants.{Digits, Spaces, Words}
use Rattle.regress_base.specs.Classes.{digits, white_space, line_terminators, word_characters}
use Rattle.regress_base.specs.Intervals.{Bounds, is_member, intervals_of}
use Rattle.regress_base.specs.Table.{Table, is_in_closure}
use Rattle.regress_lexer.specs.Source.{Source, Found, ◌>>=◌, found_map, Production, when, otherwise, first_production, char, is_one_of, is_at}
use Rattle.regress_lexer.specs.Digits.{is_decimal, is_letter, control}
use Rattle.regress_lexer.specs.Escapes.{character_escape_at, lead_surrogate, trail_surrogate}
use Rattle.regress_lexer.specs.Dialects.{compiles_case, reserves_k, splits_pairs}
use Rattle.regress_classes.specs.declared.parameters.Parameters.{Parameters}
use Rattle.regress_classes.specs.Properties.{Property, points_of, property_at}

-- ---- class escapes

-- the members of the class (ECMA-262, CharacterClassEscape)
abbrev pub members_of : CharacterClassType → List Bounds
members_of Digits = digits
members_of Spaces = white_space ++ line_terminators
members_of Words = word_characters

-- the class that a letter names (`d`, `s` or `w`, or a capital of these), and whether it is a capital, which means the
-- complement
abbrev pub class_letter : ℕ → Option (CharacterClassType × Bool)
class_letter c =
    if c == char "d" then Some (Digits, false)
    else if c == char "D" then Some (Digits, true)
    else if c == char "s" then Some (Spaces, false)
    else if c == char "S" then Some (Spaces, true)
    else if c == char "w" then Some (Words, false)
    else if c == char "W" then Some (Words, true)
    else None

-- all code points that are no members
abbrev pub complement : List Bounds → List Bounds
complement members = intervals_of (λ c. not (is_member members c))

-- the complement of the code points if the class is negated, else the code points themselves
abbrev pub complement_if : Bool → List Bounds → List Bounds
complement_if negated members = if negated then complement members else members

-- Sets are closed under case folding before a complement is taken: with the flags i and u, in some dialects.
abbrev pub closes : Parameters → Bool
closes parameters = compiles_case parameters.dialect && parameters.icase && parameters.unicode

module _ (table : Table) (parameters : Parameters) where
  -- The members, and if `closes` their closure. A closed set represents the set of the case foldings of its members
  -- (ECMA-262, MaybeSimpleCaseFolding).
  abbrev pub closed_members : List Bounds → List Bounds
  closed_members members = if closes parameters then intervals_of (is_in_closure table members) else members

  -- The class, or its complement. The closed word characters are those with the extra ones (ECMA-262, WordCharacters); the
  -- other classes have no case variants.
  abbrev pub class_members : CharacterClassType × Bool → List Bounds
  class_members (kind, negated) = complement_if negated (closed_members (members_of kind))

-- ---- atoms of a class

-- A code point, or the members of a class escape or of a property (ECMA-262, ClassAtom).
pub data ClassAtom : Type 0 where
  point : (c : ℕ) → ClassAtom
  set : (members : List Bounds) → ClassAtom

-- the interval of one code point
abbrev pub one_point : ℕ → List Bounds
one_point c = record { first = c; last = c } ∷ []

-- Code points above U+FFFF are two code units, their surrogates: in some dialects, without the flag u.
abbrev pub splits : Parameters → Bool
splits parameters = splits_pairs parameters.dialect parameters.unicode

-- whether the atom is a code point above U+FFFF
abbrev pub is_pair : ClassAtom → Bool
is_pair (point c) = nat_le 0x10000 c
is_pair (set members) = false

-- In what follows `splits` says whether such a code point is two code units.
module _ (splits : Bool) where
  -- the first and the last code unit of a code point
  abbrev pub first_unit : ℕ → ℕ
  first_unit c = if splits && is_pair (point c) then lead_surrogate c else c

  abbrev pub last_unit : ℕ → ℕ
  last_unit c = if splits && is_pair (point c) then trail_surrogate c else c

  -- its code units but the last one, and but the first one
  abbrev pub units_before : ℕ → List Bounds
  units_before c = if splits && is_pair (point c) then one_point (lead_surrogate c) else []

  abbrev pub units_after : ℕ → List Bounds
  units_after c = if splits && is_pair (point c) then one_point (trail_surrogate c) else []

  -- the members of the atom
  abbrev pub atom_members : ClassAtom → List Bounds
  atom_members (point c) = units_before c ++ one_point (last_unit c)
  atom_members (set members) = members

-- `\c` without the flag u: with a letter, a digit or `_` the low five bits of its code; else a literal backslash
abbrev pub class_control_at : Source → Found ClassAtom
class_control_at [] = Some (point (char "\\"), char "c" ∷ [])
class_control_at (d ∷ t) =
    if is_letter d || is_decimal d || d == char "_" then Some (point (control d), t) else Some (point (char "\\"), char "c" ∷ d ∷ t)

-- a property of code points, or its complement
abbrev pub class_property : Bool → Property × Source → Found ClassAtom
class_property negated (property, t) =
    elim (points_of property) [ None ↦ None | Some members ↦ Some (set (complement_if negated members), t) ]

-- the property after `\p` or `\P`
abbrev pub class_property_at : Table → Bool → Source → Found ClassAtom
class_property_at table negated t = property_at false table t >>= class_property negated

module _ (table : Table) (parameters : Parameters) where
  -- the productions of an escape in a class that starts with c and is no class escape, after its backslash (ECMA-262,
  -- ClassEscape)
  abbrev pub class_escape_productions : ℕ → Source → List (Production ClassAtom)
  class_escape_productions c t =
      -- `\b` is backspace
      when (c == char "b") (Some (point 8, t))
      ∷ when (c == char "-" && parameters.unicode) (Some (point (char "-"), t))
      ∷ when (c == char "c" && not parameters.unicode) (class_control_at t)
      ∷ when (is_one_of "pP" c && parameters.unicode) (class_property_at table (c == char "P") t)
      -- beside a group with a name `\k` may be an error
      ∷ when (c == char "k" && parameters.named && reserves_k parameters.dialect) None
      ∷ otherwise (found_map point (character_escape_at parameters.dialect parameters.unicode (c ∷ t))) ∷ []

  -- an escape in a class that starts with c, after its backslash
  abbrev pub class_escape_by : ℕ → Source → Found ClassAtom
  class_escape_by c t =
      elim (class_letter c) [ None ↦ first_production (class_escape_productions c t) | Some named ↦ Some (set (class_members table parameters named), t) ]

  -- a class escape, after its backslash (ECMA-262, CharacterClassEscape)
  abbrev pub class_escape_at : Source → Found ClassAtom
  class_escape_at [] = None
  class_escape_at (c ∷ t) = class_escape_by c t

  -- an atom: any code point but `]` and `\`, or an escape
  abbrev pub class_atom_at : Source → Found ClassAtom
  class_atom_at [] = None
  class_atom_at (c ∷ t) =
      if c == char "]" then None
      else if c == char "\\" then class_escape_at t
      else Some (point c, t)

-- ---- ranges

-- both atoms and the hyphen; only without the flag u
abbrev pub members_with_hyphen : Bool → List Bounds → List Bounds → Option (List Bounds)
members_with_hyphen unicode first last = if unicode then None else Some (first ++ one_point (char "-") ++ last)

-- a range of code points, whose end is not less than its start
abbrev pub points_between : ℕ → ℕ → Option (List Bounds)
points_between a b = if nat_le a b then Some (record { first = a; last = b } ∷ []) else None

module _ (splits : Bool) where
  -- two code points with a hyphen between them: the range from the last code unit of one to the first of the other, and
  -- the other code units
  abbrev pub units_between : ℕ → ℕ → Option (List Bounds)
  units_between a b =
      if nat_le (last_unit splits a) (first_unit splits b)
      then Some (units_before splits a ++ record { first = last_unit splits a; last = first_unit splits b } ∷ units_after splits b)
      else None

  -- the members of two atoms with a hyphen between them: a range, or without the flag u all three if an atom is a class
  abbrev pub range_of : Bool → ClassAtom → ClassAtom → Option (List Bounds)
  range_of unicode (point a) (point b) = units_between a b
  range_of unicode (point a) (set others) = members_with_hyphen unicode (atom_members splits (point a)) others
  range_of unicode (set members) (point b) = members_with_hyphen unicode members (atom_members splits (point b))
  range_of unicode (set members) (set others) = members_with_hyphen unicode members others

-- whether a hyphen starts a range: one that is not before `]`
abbrev pub begins_range : Source → Bool
begins_range t = is_at (char "-") t && not (is_at (char "]") (drop 1 t))

-- Whether the last atom of a range begins another one: its last code unit does, if it has two.
abbrev pub begins_next : Parameters → ClassAtom → Source → Bool
begins_next parameters last t = splits parameters && is_pair last && begins_range t

module _ (table : Table) (parameters : Parameters) where
  -- the members of a range, after its last atom
  abbrev pub range_to : ClassAtom → ClassAtom × Source → Found (List Bounds)
  range_to first (last, t) = elim (range_of (splits parameters) parameters.unicode first last) [ None ↦ None | Some members ↦ Some (members, t) ]

  -- the last atom of a range, where it begins no other range
  abbrev pub range_end_at : ClassAtom → Source → Found (List Bounds)
  range_end_at first t = class_atom_at table parameters t >>= range_to first

  -- a range, and the one that its last atom begins, after the hyphen
  abbrev pub ranges_to : ClassAtom → ClassAtom × Source → Found (List Bounds)
  ranges_to first (last, t) =
      range_to first (last, drop 1 t) >>= λ (members, after).
      (range_end_at last after >>= λ (others, rest). Some (members ++ others, rest))

  -- the rest of a range, after its first atom and the hyphen
  abbrev pub range_at : ClassAtom → Source → Found (List Bounds)
  range_at first t =
      class_atom_at table parameters t >>= λ (last, rest).
      (if begins_next parameters last rest then ranges_to first (last, rest) else range_to first (last, rest))

  -- an atom or a range (ECMA-262, NonemptyClassRanges)
  abbrev pub class_part_at : Source → Found (List Bounds)
  class_part_at t =
      class_atom_at table parameters t >>= λ (first, rest).
      (if begins_range rest then range_at first (drop 1 rest) else Some (atom_members (splits parameters) first, rest))

  -- ---- the class

  -- The members of the parts up to `]`, as they are written; intervals may overlap. The number bounds the number of
  -- parts.
  unfoldable pub class_parts_by : ℕ → Source → Found (List Bounds)
  class_parts_by zero t = None
  class_parts_by (suc n) t =
      if is_at (char "]") t then Some ([], drop 1 t)
      else class_part_at t >>= λ (members, rest).
      (class_parts_by n rest >>= λ (others, after). Some (members ++ others, after))

  -- the class after its `[`: whether it is inverted, and its members
  unfoldable pub class_at : Source → Found (Bool × List Bounds)
  class_at t =
      let inverted = is_at (char "^") t in
      let inside = if inverted then drop 1 t else t in
      class_parts_by (length inside + 1) inside >>= λ (members, rest). Some ((inverted, members), rest)
