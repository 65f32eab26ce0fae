-- The number of nodes in a list of trees.
use Rattle.std.proofs.Common.{◌≡◌, ◌+◌, refl, arith}
use Rattle.regress_tree.specs.Reading.{Direction, forwards, backwards}
use Rattle.regress_tree.specs.Tree.{Trees, no_trees, more_trees, append_trees, reverse_trees}
use Rattle.regress_tree.specs.Visits.{nodes_in_list}
use Rattle.regress_parse.specs.TreeOf.{in_direction}

nodes-append : (ts us : Trees) → nodes_in_list (append_trees ts us) ≡ nodes_in_list ts + nodes_in_list us
nodes-append no_trees us = omega arith
nodes-append (more_trees t ts) us = omega (arith, nodes-append ts us)

nodes-reverse : (ts : Trees) → nodes_in_list (reverse_trees ts) ≡ nodes_in_list ts
nodes-reverse no_trees = refl
nodes-reverse (more_trees t ts) = omega (arith, nodes-append (reverse_trees ts) (more_trees t no_trees), nodes-reverse ts)

-- Reversing the list does not change the number.
pub nodes-reversed : (d : Direction) (ts : Trees) → nodes_in_list (in_direction d ts) ≡ nodes_in_list ts
nodes-reversed forwards ts = refl
nodes-reversed backwards ts = nodes-reverse ts
