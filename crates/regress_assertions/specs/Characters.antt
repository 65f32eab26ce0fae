-- Sets of characters, and whether all that a leaf matches is in a set, as far as single intervals tell.
use Rattle.std.specs.Prelude.{ℕ, Bool, true, false, not, ◌&&◌, ◌||◌, ◌==◌, nat_le, List, [], ◌∷◌, Option, Some, None, if◌then◌else◌}
use Rattle.std.specs.List.{list_all, list_any}
use Rattle.regress_base.specs.Classes.{line_terminators}
use Rattle.regress_base.specs.Intervals.{Bounds}
use Rattle.regress_tree.specs.Tree.{Leaf, char, char_set, match_any, match_any_except_line_terminator, bracket, Tree, leaf}
use Rattle.regress_assertions.specs.declared.set.Set.{Set}

-- the characters of the intervals and the single ones, or if it is inverted all others
pub record Characters : Type 0 where
  pub inverted : Bool
  pub intervals : List Bounds
  pub points : List ℕ

-- the set that the code has
abbrev pub view : Set → Characters
view set = record { inverted = set.inverted; intervals = set.intervals.now; points = set.points.now }

abbrev pub one : ℕ → Bounds
one c = record { first = c; last = c }

-- Both intervals share a character.
abbrev pub meets : Bounds → Bounds → Bool
meets a b = nat_le a.first b.last && nat_le b.first a.last

-- All of the first interval is in the other one.
abbrev pub is_inside : Bounds → Bounds → Bool
is_inside a b = nat_le b.first a.first && nat_le a.last b.last

module _ (set : Characters) where
  -- An interval or a single character shares a character with this interval.
  abbrev pub some_meets : Bounds → Bool
  some_meets a = list_any (meets a) set.intervals || list_any (λ c. meets a (one c)) set.points

  -- One of them has all of this interval.
  abbrev pub some_has : Bounds → Bool
  some_has a = list_any (is_inside a) set.intervals || list_any (λ c. is_inside a (one c)) set.points

  -- All characters of the interval are in the set.
  abbrev pub has_all : Bounds → Bool
  has_all a = if set.inverted then not (some_meets a) else some_has a

  -- All characters outside of these intervals are in the set.
  abbrev pub has_all_except : List Bounds → Bool
  has_all_except others =
      set.inverted && (list_all (λ a. list_any (is_inside a) others) set.intervals
      && list_all (λ c. list_any (is_inside (one c)) others) set.points)

  -- The leaf matches one character, which is in the set.
  abbrev pub has_leaf : Leaf → Bool
  has_leaf (char c) = has_all (one c)
  has_leaf (char_set cs) = list_all (λ c. has_all (one c)) cs
  has_leaf (bracket inverted intervals) = if inverted then has_all_except intervals else list_all has_all intervals
  has_leaf match_any = has_all_except []
  has_leaf match_any_except_line_terminator = has_all_except line_terminators
  has_leaf l = false

  -- The tree is such a leaf.
  abbrev pub has_tree : Tree → Bool
  has_tree (leaf l) = has_leaf l
  has_tree t = false

-- ---- the set of a leaf

abbrev pub set_of_leaf : Leaf → Option Characters
set_of_leaf (char c) = Some (record { inverted = false; intervals = []; points = c ∷ [] })
set_of_leaf (char_set cs) = Some (record { inverted = false; intervals = []; points = cs })
set_of_leaf (bracket inverted intervals) = Some (record { inverted = inverted; intervals = intervals; points = [] })
set_of_leaf match_any = Some (record { inverted = true; intervals = []; points = [] })
set_of_leaf l = None

-- the characters that a tree matches, if it is a leaf for one character of a set
abbrev pub set_of_tree : Tree → Option Characters
set_of_tree (leaf l) = set_of_leaf l
set_of_tree t = None

-- the other characters
abbrev pub complement : Characters → Characters
complement set = record { inverted = not set.inverted; intervals = set.intervals; points = set.points }
