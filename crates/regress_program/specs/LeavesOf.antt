-- The leaves of a tree, in the order in which its instructions are compiled.
use Rattle.std.specs.Prelude.{◌≡◌, ℕ, ◌≤◌, Bool, if◌then◌else◌, List, [], ◌∷◌, ◌++◌, drop, length, map}
use Rattle.regress_base.specs.declared.types.Quantifier.{Quantifier}
use Rattle.regress_leaves.specs.declared.test.Test.{Test}
use Rattle.regress_prefilter.specs.OneCharacter.{takes_one}
use Rattle.regress_tree.specs.Tree.{Leaf, empty, goal, string_set, Wrapper, loop, loop_one, Tree, Trees, leaf, cat, alt, wrapped, no_trees, more_trees, tree}
use Rattle.regress_program.specs.Linear.{is_never}

-- each string is a leaf, the last one first
abbrev pub leaves_of_strings : List (List ℕ) → (icase : Bool) → List Tree
leaves_of_strings [] icase = []
leaves_of_strings (s ∷ ss) icase = leaves_of_strings ss icase ++ leaf (string_set (s ∷ []) icase) ∷ []

-- a leaf that matches the empty string has no instructions
abbrev pub leaves_of_leaf : Leaf → List Tree
leaves_of_leaf empty = []
leaves_of_leaf goal = []
leaves_of_leaf (string_set ss icase) = leaves_of_strings ss icase
leaves_of_leaf l = leaf l ∷ []

-- a loop, with those of its body
abbrev pub leaves_of_loop : Quantifier → List Tree → List Tree
leaves_of_loop q ts = if is_never q then [] else ts

-- a node, with those of its body, which may be a leaf that matches one character
abbrev pub leaves_of_wrapper : Wrapper → (one : Bool) → List Tree → List Tree
leaves_of_wrapper (loop q start end) one ts = leaves_of_loop q ts
leaves_of_wrapper (loop_one q) one ts = if one then ts else leaves_of_loop q ts
leaves_of_wrapper w one ts = ts

abbrev mutual
  -- the leaves of a tree; of a sequence, those of the last part first
  pub leaves_of : Tree → List Tree
  leaves_of (leaf l) = leaves_of_leaf l
  leaves_of (cat parts) = leaves_of_parts parts
  leaves_of (alt left right) = leaves_of left ++ leaves_of right
  leaves_of (wrapped w body) = leaves_of_wrapper w (takes_one body) (leaves_of body)

  pub leaves_of_parts : Trees → List Tree
  leaves_of_parts no_trees = []
  leaves_of_parts (more_trees t ts) = leaves_of_parts ts ++ leaves_of t

-- the tree of a leaf
abbrev pub tree_of : Test → Tree
tree_of t = tree t.node

-- From an index on, these are the leaves.
pub record HasLeaves (leaves : List Test) (from : ℕ) (ts : List Tree) : Type 0 where
  pub bound : length leaves ≤ 18446744073709551615
  pub rest : List Tree
  pub is : drop from (map tree_of leaves) ≡ ts ++ rest
