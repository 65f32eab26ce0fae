-- Which nodes of a tree are assertions that never hold.
use Rattle.std.specs.Prelude.{Bool, false, List, [], ◌∷◌, ◌++◌}
use Rattle.regress_tree.specs.Tree.{capture_group, loop, loop_one, lookaround, Tree, Trees, leaf, cat, alt, wrapped, no_trees, more_trees}
use Rattle.regress_assertions.specs.Holding.{unknown, fails}

-- the first part of a list, or what is after the list if it has none
abbrev pub first_or : (after : Tree) → Trees → Tree
first_or after no_trees = after
first_or after (more_trees t ts) = t

-- For each node of a tree in postorder whether it is such an assertion, given whether matching runs backwards there, and
-- what is directly before and after the tree. Of what is around an iteration or the body of a lookaround nothing is known.
abbrev mutual
  pub marks_in : (backwards : Bool) → (previous next : Tree) → Tree → List Bool
  marks_in backwards previous next (leaf l) = fails backwards previous next (leaf l) ∷ []
  marks_in backwards previous next (cat parts) = marks_of_list backwards previous next parts ++ false ∷ []
  marks_in backwards previous next (alt left right) =
      marks_in backwards previous next left ++ marks_in backwards previous next right ++ false ∷ []
  marks_in backwards previous next (wrapped (capture_group id name) body) = marks_in backwards previous next body ++ false ∷ []
  marks_in backwards previous next (wrapped (loop q start end) body) = marks_in backwards unknown unknown body ++ false ∷ []
  marks_in backwards previous next (wrapped (loop_one q) body) = marks_in backwards unknown unknown body ++ false ∷ []
  marks_in backwards previous next (wrapped (lookaround negate behind start end) body) =
      marks_in behind unknown unknown body ++ fails backwards previous next (wrapped (lookaround negate behind start end) body) ∷ []

  pub marks_of_list : (backwards : Bool) → (previous next : Tree) → Trees → List Bool
  marks_of_list backwards previous next no_trees = []
  marks_of_list backwards previous next (more_trees t ts) =
      marks_in backwards previous (first_or next ts) t ++ marks_of_list backwards t next ts
