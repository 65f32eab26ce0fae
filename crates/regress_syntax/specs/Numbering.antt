-- The numbers of groups, and a sorted list of them by which a group is found by its name.
use Rattle.std.specs.Prelude.{◌≡◌, ℕ, ◌+◌, ◌-◌, List, [], ◌∷◌, map, filter, get_or, Option, Some, None, option_map, if◌then◌else◌, nat_le, Vec}
use Rattle.std.specs.Cmp.Lexicographic.{slice_cmp}
use Rattle.std.specs.List.Sorted.{IsNonDecreasingBy}
use Rattle.std.specs.Ordering.{nat_cmp, is_eq, ordering_index}
use Rattle.std.specs.declared.cmp.Ordering.{Ordering}
use Rattle.std.specs.declared.cmp.Ordering.TheVariants.{Greater}
use Rattle.std.specs.declared.alloc.Global.{Global}
use Rattle.regress_lexer.specs.Source.{Source, Found}
use Rattle.regress_lexer.specs.Digits.{is_decimal, number, front, after}
use Rattle.regress_syntax.specs.Syntax.{Name, groups_named}

-- the name of each group
abbrev pub names_of : List (Option (Vec ℕ Global)) → List (Option Name)
names_of names = map (option_map (λ name. name.items)) names

-- the groups that have names, with their numbers, where the first group of the list has number n
abbrev pub numbered : ℕ → List (Option Name) → List (Name × ℕ)
numbered n [] = []
numbered n (None ∷ names) = numbered (n + 1) names
numbered n (Some name ∷ names) = (name, n) ∷ numbered (n + 1) names

-- how the name of a group compares with a name; no name is greater than every name
abbrev pub order_of : Option Name → Name → Ordering
order_of None name = Greater
order_of (Some other) name = slice_cmp nat_cmp other name

-- how the name of group k, counted from 1, compares with a name
abbrev pub name_order : List (Option Name) → Name → ℕ → Ordering
name_order names name k = order_of (get_or names (k - 1) None) name

-- The list has the numbers of the named groups, sorted by name, so that a binary search finds the groups of a name.
pub record AreSortedByName (names : List (Option Name)) (sorted : List ℕ) : Type 0 where
  pub order : (name : Name) → IsNonDecreasingBy (λ k. ordering_index (name_order names name k)) sorted
  pub each : (name : Name) → filter (λ k. is_eq (name_order names name k)) sorted ≡ groups_named name 1 names

-- The number of a group: the longest run of digits, if it is at most `groups`.
abbrev pub group_number_at : (groups : ℕ) → Source → Found ℕ
group_number_at groups t =
    let group = number 10 (front is_decimal t) in
    if nat_le group groups then Some (group, after is_decimal t) else None
