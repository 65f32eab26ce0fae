-- The remaining budget after each node.
use Rattle.std.proofs.Common.{◌≡◌, ℕ, ◌+◌, ◌≤◌, ◌||◌, Bool, true, false, max, Some, None, refl, ◌∙◌, arith}
use Rattle.std.proofs.lemmas.Bool.Decides.{nat_tests}
use Rattle.regress_tree.specs.Measures.{nesting}
use Rattle.regress_tree.specs.Shapes.{has_loop, has_string_set}
use Rattle.regress_tree.specs.Tree.{Leaf, Tree, Trees, byte_sequence, leaf, cat, alt, wrapped, more_trees}
use Rattle.regress_tree.specs.Units.{charge, charges, charge_of_leaf}
use Rattle.regress_tree.proofs.lemmas.Measures.{total-positive}
use Rattle.regress_passes.specs.Unrolled.{left_of_budget, remaining_budget, remaining_budget_of_parts}

left_of_budget-then : (most budget left : ℕ) (loops loops' strings strings' : Bool) (charge charge' nesting nesting' : ℕ) →
    Some left ≡ left_of_budget most budget loops strings charge nesting → left_of_budget most left loops' strings' charge' nesting'
    ≡ left_of_budget most budget (loops || loops') (strings || strings') (charge + charge') (max nesting nesting')
left_of_budget-then most budget left true loops' strings strings' charge charge' nesting nesting' is = cc
left_of_budget-then most budget left false loops' true strings' charge charge' nesting nesting' is = cc
left_of_budget-then most budget left false true false strings' charge charge' nesting nesting' is = refl
left_of_budget-then most budget left false false false true charge charge' nesting nesting' is = refl
left_of_budget-then most budget left false false false false charge charge' nesting nesting' is = grind (arith, nat_tests)

-- the parts after the first one have the budget that it leaves
pub remaining_budget-more : (most budget left : ℕ) (t : Tree) (ts : Trees) → Some left ≡ remaining_budget most budget t →
    remaining_budget_of_parts most left ts ≡ remaining_budget_of_parts most budget (more_trees t ts)
remaining_budget-more most budget left t ts is = left_of_budget-then most budget left _ _ _ _ _ _ _ _ is

none-then : (most budget : ℕ) (loops loops' strings strings' : Bool) (charge charge' nesting nesting' : ℕ) →
    None ≡ left_of_budget most budget loops strings charge nesting →
    None ≡ left_of_budget most budget (loops || loops') (strings || strings') (charge + charge') (max nesting nesting')
none-then most budget true loops' strings strings' charge charge' nesting nesting' is = refl
none-then most budget false true strings strings' charge charge' nesting nesting' is = refl
none-then most budget false false true strings' charge charge' nesting nesting' is = refl
none-then most budget false false false true charge charge' nesting nesting' is = refl
none-then most budget false false false false charge charge' nesting nesting' is = grind (arith, nat_tests)

-- no budget remains if no nesting depth or no budget is given
none_of : (most budget : ℕ) (loops strings : Bool) (charge nesting : ℕ) → 1 ≤ charge → 1 ≤ nesting → (1 ≤ most → 1 ≤ budget → ⊥) →
    None ≡ left_of_budget most budget loops strings charge nesting
none_of most budget true strings charge nesting some deep none = refl
none_of most budget false true charge nesting some deep none = refl
none_of most budget false false charge nesting some deep none = grind (arith, nat_tests)

-- One node and one level of nesting are charged, and its children get what remains.
module _ (most budget inside left : ℕ) (level : most ≡ inside + 1) (one : budget ≡ left + 1) where
  one_more : (loops strings : Bool) (charge nesting : ℕ) →
      left_of_budget inside left loops strings charge nesting ≡ left_of_budget most budget loops strings (1 + charge) (1 + nesting)
  one_more true strings charge nesting = refl
  one_more false true charge nesting = refl
  one_more false false charge nesting = grind (arith, nat_tests, level, one)

  pub charged-cat : (ts : Trees) → remaining_budget_of_parts inside left ts ≡ remaining_budget most budget (cat ts)
  charged-cat ts = one_more _ _ _ _

  pub charged-alt : (first second : Tree) (rest : ℕ) → Some rest ≡ remaining_budget inside left first →
      remaining_budget inside rest second ≡ remaining_budget most budget (alt first second)
  charged-alt first second rest is = left_of_budget-then inside left rest _ _ _ _ _ _ _ _ is ∙ one_more _ _ _ _

  pub rejected-alt : (first second : Tree) → None ≡ remaining_budget inside left first → None ≡ remaining_budget most budget (alt first second)
  rejected-alt first second is = none-then inside left _ (has_loop second) _ (has_string_set second) _ (charge second) _ (nesting second) is ∙ one_more _ _ _ _

charge_of_leaf-positive : (l : Leaf) → 1 ≤ charge_of_leaf l
charge_of_leaf-positive (byte_sequence bytes) = omega arith
charge_of_leaf-positive l = omega arith

nesting-positive : (t : Tree) → 1 ≤ nesting t
nesting-positive (leaf l) = omega arith
nesting-positive (cat parts) = omega arith
nesting-positive (alt left right) = omega arith
nesting-positive (wrapped w body) = omega arith

-- a tree has at least one node and nesting depth 1
pub charged-none : (most budget : ℕ) (t : Tree) → (1 ≤ most → 1 ≤ budget → ⊥) → None ≡ remaining_budget most budget t
charged-none most budget t none = none_of most budget (has_loop t) (has_string_set t) (charge t) (nesting t)
    (total-positive charges charge_of_leaf-positive (omega arith) (omega arith) (λ w. omega arith) t) (nesting-positive t) none
