-- With which characters what a tree matches begins and ends, in the order of the lists of the tree: that of the text, or
-- in a lookbehind the opposite one.
use Rattle.std.specs.Prelude.{Bool, true, false, not, ◌&&◌, ◌==◌}
use Rattle.regress_tree.specs.Tree.{Wrapper, capture_group, loop, loop_one, lookaround, Tree, Trees, leaf, cat, alt, wrapped, no_trees, more_trees}
use Rattle.regress_assertions.specs.Characters.{Characters, has_leaf}

-- A match has a match of the body, and nothing else.
abbrev pub has_body : Wrapper → Bool
has_body (capture_group id name) = true
has_body (loop q start end) = not (q.min == 0)
has_body (loop_one q) = not (q.min == 0)
has_body (lookaround negate backwards start end) = false

module _ (set : Characters) where
  -- Each match is at least one character long, and its first one is in the set, since the first part is such.
  abbrev mutual
    pub opens : Tree → Bool
    opens (leaf l) = has_leaf set l
    opens (cat parts) = opens_list parts
    opens (alt left right) = opens left && opens right
    opens (wrapped w body) = has_body w && opens body

    pub opens_list : Trees → Bool
    opens_list no_trees = false
    opens_list (more_trees t ts) = opens t

  -- the same for the last part and the last character
  abbrev mutual
    pub closes : Tree → Bool
    closes (leaf l) = has_leaf set l
    closes (cat parts) = closes_list parts
    closes (alt left right) = closes left && closes right
    closes (wrapped w body) = has_body w && closes body

    pub closes_list : Trees → Bool
    closes_list no_trees = false
    closes_list (more_trees t no_trees) = closes t
    closes_list (more_trees t (more_trees u us)) = closes_list (more_trees u us)

-- the part that each match begins with
abbrev mutual
  pub first_part : Tree → Tree
  first_part (leaf l) = leaf l
  first_part (cat parts) = first_of parts
  first_part (alt left right) = alt left right
  first_part (wrapped (capture_group id name) body) = first_part body
  first_part (wrapped (loop q start end) body) = wrapped (loop q start end) body
  first_part (wrapped (loop_one q) body) = wrapped (loop_one q) body
  first_part (wrapped (lookaround negate backwards start end) body) = wrapped (lookaround negate backwards start end) body

  pub first_of : Trees → Tree
  first_of no_trees = cat no_trees
  first_of (more_trees t ts) = first_part t
