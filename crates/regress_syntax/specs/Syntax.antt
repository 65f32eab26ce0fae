-- The syntax tree of a pattern.
use Rattle.std.specs.Prelude.{ℕ, ◌+◌, max, Bool, true, false, List, [], ◌∷◌, ◌++◌, Option, Some, None, if◌then◌else◌}
use Rattle.std.specs.Str.{bytes_eq}
use Rattle.regress_base.specs.Intervals.{Bounds}
use Rattle.regress_base.specs.declared.charclasses.CharacterClassType.{CharacterClassType}
use Rattle.regress_base.specs.declared.types.Flags.{Flags}
use Rattle.regress_base.specs.declared.types.AnchorType.{AnchorType}
use Rattle.regress_base.specs.declared.types.Quantifier.{Quantifier}
use Rattle.regress_tree.specs.Reading.{Direction}
use Rattle.regress_classes.specs.ClassSets.{Value}
use Rattle.regress_lexer.specs.Modifiers.{Change}

-- the name of a group, as a list of characters
abbrev pub Name : Type 0
Name = List ℕ

-- a group has this name
abbrev pub is_named : Name → Option Name → Bool
is_named name None = false
is_named name (Some other) = bytes_eq other name

-- the numbers of the groups with this name, in a list whose first group has number n (ECMA-262, GroupSpecifiersThatMatch)
abbrev pub groups_named : Name → ℕ → List (Option Name) → List ℕ
groups_named name n [] = []
groups_named name n (other ∷ names) =
    if is_named name other then n ∷ groups_named name (n + 1) names else groups_named name (n + 1) names

-- the groups that a backreference names: one group by its number, from 1, or all groups of a name, which are tried in
-- order, or of which at most one is set
pub data Target : Type 0 where
  by_number : (number : ℕ) → Target
  by_name : (name : Name) → Target
  by_name_if_set : (name : Name) → Target

-- whether references to the groups follow each other, where those to groups that are not set match the empty string
abbrev pub is_joined : Target → Bool
is_joined (by_number k) = false
is_joined (by_name name) = false
is_joined (by_name_if_set name) = true

-- An item without a body. Each has the flags in force at its position.
pub data Atom : Type 0 where
  literal : (flags : Flags) (c : ℕ) → Atom
  dot : (flags : Flags) → Atom
  anchor : (flags : Flags) (kind : AnchorType) → Atom
  boundary : (flags : Flags) (inverted : Bool) → Atom
  -- a class escape such as `\d`, or its complement
  class_escape : (flags : Flags) (kind : CharacterClassType) (negated : Bool) → Atom
  -- a class as a list of intervals, which may overlap; a property of code points is one too
  class : (flags : Flags) (inverted : Bool) (members : List Bounds) → Atom
  -- a class set, under the flag v
  class_set : (flags : Flags) (negated : Bool) (value : Value) → Atom
  -- a property of strings
  string_property : (flags : Flags) (written : List (List ℕ)) → Atom
  back_reference : (flags : Flags) (to : Target) → Atom

-- What an opening parenthesis begins. A group has no number: that is the number of capture groups opened before it.
pub data Group : Type 0 where
  grouping : Group
  modified : (change : Change) → Group
  capture : (name : Option Name) → Group
  -- A lookahead matches forwards and a lookbehind backwards.
  look : (negate : Bool) (direction : Direction) → Group

mutual
  -- one or more alternatives (ECMA-262, Disjunction)
  pub data Pattern : Type 0 where
    one : (terms : Terms) → Pattern
    either : (terms : Terms) (others : Pattern) → Pattern

  -- a sequence of terms, each an item and the quantifier that follows it, if any (ECMA-262, Alternative and Term)
  pub data Terms : Type 0 where
    no_terms : Terms
    more_terms : (first : Item) (times : Option Quantifier) (rest : Terms) → Terms

  -- an atom, or a group with its body
  pub data Item : Type 0 where
    atom : (a : Atom) → Item
    group : (kind : Group) (body : Pattern) → Item

-- what is numbered from the start of a pattern: capture groups, and loops, which are items with a quantifier
pub record Counts : Type 0 where
  pub groups : ℕ
  pub loops : ℕ

-- no group and no loop
abbrev pub nothing_counted : Counts
nothing_counted = record { groups = 0; loops = 0 }

-- the sum of both
abbrev pub added : Counts → Counts → Counts
added a b = record { groups = a.groups + b.groups; loops = a.loops + b.loops }

-- the number of capture groups that a parenthesis opens
abbrev pub opened_by : Group → ℕ
opened_by grouping = 0
opened_by (modified change) = 0
opened_by (capture name) = 1
opened_by (look negate direction) = 0

-- the direction in which the body of a group is matched
abbrev pub direction_of_group : Group → Direction → Direction
direction_of_group grouping d = d
direction_of_group (modified change) d = d
direction_of_group (capture name) d = d
direction_of_group (look negate direction) d = direction

-- the count of a parenthesis, without what is inside
abbrev pub counts_of_group : Group → Counts
counts_of_group kind = record { groups = opened_by kind; loops = 0 }

-- the count of one quantifier
abbrev pub one_loop : Counts
one_loop = record { groups = 0; loops = 1 }

-- the count of an optional quantifier
abbrev pub counts_of_quantifier : Option Quantifier → Counts
counts_of_quantifier None = nothing_counted
counts_of_quantifier (Some q) = one_loop

abbrev mutual
  -- the capture groups and loops of a pattern, of terms and of an item
  pub counts : Pattern → Counts
  counts (one ts) = counts_of_terms ts
  counts (either ts p) = added (counts_of_terms ts) (counts p)

  pub counts_of_terms : Terms → Counts
  counts_of_terms no_terms = nothing_counted
  counts_of_terms (more_terms x q xs) = added (added (counts_of_item x) (counts_of_quantifier q)) (counts_of_terms xs)

  pub counts_of_item : Item → Counts
  counts_of_item (atom a) = nothing_counted
  counts_of_item (group kind p) = added (counts_of_group kind) (counts p)

-- the count of an item with its quantifier
abbrev pub counts_of_term : Item → Option Quantifier → Counts
counts_of_term x q = added (counts_of_item x) (counts_of_quantifier q)

-- a list with the name of a capture group, `None` if it has no name; empty for other groups
abbrev pub names_of_group : Group → List (Option Name)
names_of_group grouping = []
names_of_group (modified change) = []
names_of_group (capture name) = name ∷ []
names_of_group (look negate direction) = []

-- the name of each capture group, in the order of the opening parentheses (ECMA-262, CountLeftCapturingParensBefore)
abbrev mutual
  pub names : Pattern → List (Option Name)
  names (one ts) = names_of_terms ts
  names (either ts p) = names_of_terms ts ++ names p

  pub names_of_terms : Terms → List (Option Name)
  names_of_terms no_terms = []
  names_of_terms (more_terms x q xs) = names_of_item x ++ names_of_terms xs

  pub names_of_item : Item → List (Option Name)
  names_of_item (atom a) = []
  names_of_item (group kind p) = names_of_group kind ++ names p

-- the nesting depth of the classes in an item
abbrev pub nesting_of_atom : Atom → ℕ
nesting_of_atom (literal flags c) = 0
nesting_of_atom (dot flags) = 0
nesting_of_atom (anchor flags kind) = 0
nesting_of_atom (boundary flags inverted) = 0
nesting_of_atom (class_escape flags kind negated) = 0
nesting_of_atom (class flags inverted members) = 0
nesting_of_atom (class_set flags negated value) = value.nesting
nesting_of_atom (string_property flags written) = 0
nesting_of_atom (back_reference flags to) = 0

-- The nesting depth: the whole pattern counts one, and so does each group around the innermost item, and each class
-- around it but the outermost.
abbrev mutual
  pub nesting : Pattern → ℕ
  nesting (one ts) = 1 + nesting_of_terms ts
  nesting (either ts p) = max (1 + nesting_of_terms ts) (nesting p)

  pub nesting_of_terms : Terms → ℕ
  nesting_of_terms no_terms = 0
  nesting_of_terms (more_terms x q xs) = max (nesting_of_item x) (nesting_of_terms xs)

  pub nesting_of_item : Item → ℕ
  nesting_of_item (atom a) = nesting_of_atom a
  nesting_of_item (group kind p) = nesting p
