-- The size of a tree, and the measure that decreases with every rewrite.
use Rattle.std.specs.Prelude.{◌≡◌, ℕ, ◌+◌, ◌*◌, ◌<◌, ◌⊎◌, [], ◌∷◌, length, if◌then◌else◌, ◌==◌}
use Rattle.regress_tree.specs.Measures.{Measure, total, total_in_list}
use Rattle.regress_tree.specs.Tree.{Leaf, char, byte_sequence, byte_set, char_set, bracket, Wrapper, loop, loop_one, Tree, Trees}

-- one for a node, and one more for each byte of a `ByteSequence`
abbrev pub charge_of_leaf : Leaf → ℕ
charge_of_leaf (byte_sequence bytes) = 1 + length bytes
charge_of_leaf l = 1

abbrev pub charges : Measure
charges = record { of_leaf = charge_of_leaf; of_cat = 1; of_alt = 1; of_wrapper = λ w. 1 }

-- the size of a loop's body that limits unrolling, since the body is copied
abbrev pub charge : Tree → ℕ
charge = total charges

-- the same, but five for a `Char`, whose UTF-8 would take a node and at most four bytes
abbrev pub units_of_leaf : Leaf → ℕ
units_of_leaf (char c) = 5
units_of_leaf l = charge_of_leaf l

abbrev pub sizes : Measure
sizes = record { of_leaf = units_of_leaf; of_cat = 1; of_alt = 1; of_wrapper = λ w. 1 }

-- the size of a tree, in units
abbrev pub units : Tree → ℕ
units = total sizes

abbrev pub units_in_list : Trees → ℕ
units_in_list = total_in_list sizes

-- 1 for a loop that may be unrolled, and otherwise 0
abbrev pub unrollable : Wrapper → ℕ
unrollable (loop quantifier start end) = if quantifier.min == 0 then 0 else 1
unrollable w = 0

abbrev pub unrollables : Measure
unrollables = record { of_leaf = λ l. 0; of_cat = 0; of_alt = 0; of_wrapper = unrollable }

-- the number of loops that may be unrolled
abbrev pub loops : Tree → ℕ
loops = total unrollables

-- The greatest size that unrolling one loop may add: five copies of a body with a charge of at most 256, of which each
-- counts at most five units, and a node around them.
abbrev pub unrolling : ℕ
unrolling = 6401

-- An upper bound for the size after rewriting: the units, and what unrolling may add for each loop.
abbrev pub account : Tree → ℕ
account t = units t + unrolling * loops t

abbrev pub weight_of_leaf : Leaf → ℕ
weight_of_leaf (char c) = 4
weight_of_leaf (byte_sequence []) = 2
weight_of_leaf (byte_sequence (b ∷ bytes)) = 3
weight_of_leaf (byte_set bytes) = 2
weight_of_leaf (char_set characters) = 3
weight_of_leaf (bracket invert intervals) = 4 + length intervals
weight_of_leaf l = 1

abbrev pub weight_of_wrapper : Wrapper → ℕ
weight_of_wrapper (loop quantifier start end) = 3
weight_of_wrapper (loop_one quantifier) = 2
weight_of_wrapper w = 1

abbrev pub weights : Measure
weights = record { of_leaf = weight_of_leaf; of_cat = 2; of_alt = 1; of_wrapper = weight_of_wrapper }

abbrev pub weight : Tree → ℕ
weight = total weights

-- The order in which every action of a rewrite decreases a tree: first by the number of loops that may be unrolled,
-- then by weight.
pub record IsLess (new old : Tree) : Type 0 where
  pub less : (loops new < loops old) ⊎ ((loops new ≡ loops old) × (weight new < weight old))
