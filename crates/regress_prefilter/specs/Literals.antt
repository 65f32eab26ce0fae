-- The literals of a tree that each of its matches contains, and the longest of them.
use Rattle.std.specs.Prelude.{ℕ, Bool, true, false, List, [], ◌∷◌, ◌++◌, Option, Some, None, option_map, length, nat_le, nat_lt, if◌then◌else◌}
use Rattle.std.specs.Borrow.{Bor}
use Rattle.regress_tree.specs.Tree.{byte_sequence, Wrapper, capture_group, loop, loop_one, lookaround, Tree, Trees, leaf, cat, alt, wrapped, no_trees, more_trees}

-- Each match in the forward direction contains one of the body: that of a group, or of a loop with a minimum above 0.
abbrev pub contains_body : Wrapper → Bool
contains_body (capture_group id name) = true
contains_body (loop q start end) = nat_lt 0 q.min
contains_body (loop_one q) = nat_lt 0 q.min
contains_body (lookaround negate backwards start end) = false

-- the literals of a tree outside alternations, lookarounds and loops with a minimum of 0, from left to right; none is empty
abbrev mutual
  pub literals : Tree → List (List ℕ)
  literals (leaf (byte_sequence (b ∷ bytes))) = (b ∷ bytes) ∷ []
  literals (leaf l) = []
  literals (cat parts) = literals_of_trees parts
  literals (alt left right) = []
  literals (wrapped w body) = if contains_body w then literals body else []

  pub literals_of_trees : Trees → List (List ℕ)
  literals_of_trees no_trees = []
  literals_of_trees (more_trees t ts) = literals t ++ literals_of_trees ts

-- the longer one of two literals, the first one if they are of the same length
abbrev pub longer : Option (List ℕ) → Option (List ℕ) → Option (List ℕ)
longer None two = two
longer (Some one) None = Some one
longer (Some one) (Some two) = if nat_le (length two) (length one) then Some one else Some two

-- the longest of them, the first one of several
abbrev pub longest : List (List ℕ) → Option (List ℕ)
longest [] = None
longest (l ∷ ls) = longer (Some l) (longest ls)

-- a literal as its bytes
abbrev pub bytes_in : Option (Bor (List ℕ)) → Option (List ℕ)
bytes_in literal = option_map (λ l. l.now) literal
