-- Lemmas about the trees that `try_duplicate` copies.
use Rattle.std.proofs.Common.{◌≡◌, ℕ, ◌+◌, ◌<◌, ◌≤◌, inl, inr, max, Bool, true, false, not, ◌&&◌, ◌||◌, nat_le, arith, List, length, get_or, drop, sym, ap, ◌∙◌}
use Rattle.std.proofs.lemmas.Bool.{cases_lt}
use Rattle.std.proofs.lemmas.Bool.Decides.{nat_tests}
use Rattle.regress_tree.specs.declared.ir.node.Node.{Node}
use Rattle.regress_tree.specs.Tree.{Tree, Trees, leaf, cat, alt, wrapped, no_trees, more_trees, tree, trees}
use Rattle.regress_tree.specs.Copies.{HasNoGroup, NoneHasGroup}
use Rattle.regress_tree.proofs.LoopLemmas.{left_is}
use Rattle.regress_tree.specs.Duplicates.{may_duplicate, may_duplicate_list}
use Rattle.regress_tree.specs.Measures.{nesting, nesting_of_deepest}
use Rattle.regress_tree.specs.Shapes.{on_leaf, is_string_set, has_string_set, some_node_in_list}

one_level : (depth : ℕ) (strings : Bool) → (nat_le depth 100 && not strings) ≡ (not strings && nat_le (depth + 1) 101)
one_level depth true = grind (arith, nat_tests)
one_level depth false = grind (arith, nat_tests)

one_inside : (depth more : ℕ) (strings : Bool) → (nat_le depth 100 && (not strings && nat_le (depth + 1 + more) 101))
    ≡ (not strings && nat_le (depth + (1 + more)) 101)
one_inside depth more true = grind (arith, nat_tests)
one_inside depth more false = grind (arith, nat_tests)

both_inside : (depth a b : ℕ) (s t : Bool) → ((not s && nat_le (depth + a) 101) && (not t && nat_le (depth + b) 101))
    ≡ (not (s || t) && nat_le (depth + max a b) 101)
both_inside depth a b true t = grind (arith, nat_tests)
both_inside depth a b false true = grind (arith, nat_tests)
both_inside depth a b false false = grind (arith, nat_tests)

too_deep : (depth more : ℕ) (strings rest : Bool) → 100 < depth →
    (nat_le depth 100 && rest) ≡ (not strings && nat_le (depth + (1 + more)) 101)
too_deep depth more true rest deep = grind (arith, nat_tests)
too_deep depth more false rest deep = grind (arith, nat_tests)

-- They are the trees without a `StringSet` whose nodes are all at a depth of at most 100.
mutual
  pub may_duplicate-is : (depth : ℕ) (t : Tree) → may_duplicate depth t ≡ (not (has_string_set t) && nat_le (depth + nesting t) 101)
  may_duplicate-is depth (leaf l) = one_level depth (is_string_set l)
  may_duplicate-is depth (cat parts) =
      elim (cases_lt 100 depth) [
        | inl deep ↦ too_deep depth (nesting_of_deepest parts) (some_node_in_list (on_leaf is_string_set) parts) _ deep
        | inr shallow ↦
            rw (may_duplicate_list-is (depth + 1) parts (omega arith))
            (one_inside depth (nesting_of_deepest parts) (some_node_in_list (on_leaf is_string_set) parts))
      ]
  may_duplicate-is depth (alt left right) =
      rw (
        may_duplicate-is (depth + 1) left,
        may_duplicate-is (depth + 1) right,
        both_inside (depth + 1) (nesting left) (nesting right) (has_string_set left) (has_string_set right),
      )
      (one_inside depth (max (nesting left) (nesting right)) (has_string_set left || has_string_set right))
  may_duplicate-is depth (wrapped w body) =
      rw (may_duplicate-is (depth + 1) body) (one_inside depth (nesting body) (has_string_set body))

  may_duplicate_list-is : (depth : ℕ) (ts : Trees) → depth ≤ 101 →
      may_duplicate_list depth ts ≡ (not (some_node_in_list (on_leaf is_string_set) ts) && nat_le (depth + nesting_of_deepest ts) 101)
  may_duplicate_list-is depth no_trees h = grind (arith, nat_tests)
  may_duplicate_list-is depth (more_trees t ts) h =
      rw (may_duplicate-is depth t, may_duplicate_list-is depth ts h)
      (both_inside depth (nesting t) (nesting_of_deepest ts) (has_string_set t) (some_node_in_list (on_leaf is_string_set) ts))

-- A list with a node that is to be duplicated.
module _ (nodes : List Node) (i : ℕ) (node : Node) (in_list : i < length nodes) (is : node ≡ get_or nodes i node) where
  left : trees (drop i nodes) ≡ more_trees (tree node) (trees (drop (i + 1) nodes))
  left = ap trees (left_is nodes i node in_list is)

  pub have_no_group : NoneHasGroup (trees (drop i nodes)) → HasNoGroup (tree node) × NoneHasGroup (trees (drop (i + 1) nodes))
  have_no_group none = rw left at none

  module _ (depth : ℕ) (still : may_duplicate_list depth (trees (drop i nodes)) ≡ may_duplicate_list depth (trees nodes)) where
    pub still_next : true ≡ may_duplicate depth (tree node) → may_duplicate_list depth (trees (drop (i + 1) nodes)) ≡ may_duplicate_list depth (trees nodes)
    still_next one = ap (λ b. b && may_duplicate_list depth (trees (drop (i + 1) nodes))) one ∙ ap (may_duplicate_list depth) (sym left) ∙ still

    pub rejected : false ≡ may_duplicate depth (tree node) → false ≡ may_duplicate_list depth (trees nodes)
    rejected one = ap (λ b. b && may_duplicate_list depth (trees (drop (i + 1) nodes))) one ∙ ap (may_duplicate_list depth) (sym left) ∙ still
