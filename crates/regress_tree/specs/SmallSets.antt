-- Small sets of code points, as leaves of a tree.
use Rattle.std.specs.Prelude.{ℕ, Bool, nat_le, List, if◌then◌else◌}
use Rattle.std.specs.List.{list_all}
use Rattle.regress_tree.specs.Tree.{Leaf, byte_set, char_set}

-- All members are ASCII.
abbrev pub is_ascii : List ℕ → Bool
is_ascii members = list_all (λ x. nat_le x 127) members

-- the leaf that matches one of several code points
abbrev pub set_of : List ℕ → Leaf
set_of members = if is_ascii members then byte_set members else char_set members
