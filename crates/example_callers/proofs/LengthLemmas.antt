-- The minimum length of a tree's matches, from those of its parts.
use Rattle.std.proofs.Common.{◌≡◌, ℕ, ◌+◌, ◌*◌, ◌≤◌, min, List, Option, String, Box, Global, Vec, subst, arith}
use Rattle.std.proofs.Math.Nat.{mul_comm}
use Rattle.std.specs.declared.ops.Range.{Range}
use Rattle.regress_tree.specs.declared.ir.node.Node.{Node}
use Rattle.regress_tree.specs.declared.ir.node.Node.TheVariants.{Cat, Alt, CaptureGroup, Loop, Loop1CharBody}
use Rattle.regress_tree.proofs.lemmas.Nodes.{tree-Cat, tree-Alt, tree-CaptureGroup, tree-Loop, tree-Loop1CharBody}
use Rattle.regress_tree.proofs.lemmas.Onward.{Advances-less, Advances-stay, Advances-then, Advances-or, Advances-hold_at, Advances-one_character, Advances-these_bytes, Advances-any_string, Advances-back_reference, Advances-capture, Advances-look, Advances-repeat}
use Rattle.regress_tree.specs.Onward.{TakesAtLeast}
use Rattle.regress_tree.specs.Tree.{Leaf, empty, goal, char, byte_sequence, byte_set, char_set, match_any, match_any_except_line_terminator, anchor, word_boundary, bracket, back_ref, string_set, capture_group, loop, loop_one, lookaround, Tree, Trees, leaf, cat, alt, wrapped, no_trees, more_trees, tree, trees}
use Rattle.example_callers.specs.Least.{least_of_leaf, least_here}

pub takes_less : (m n : ℕ) (t : Tree) → m ≤ n → TakesAtLeast n t → TakesAtLeast m t
takes_less m n t less takes = λ setting bytes. Advances-less m n _ less (takes setting bytes)

pub same_takes : (n : ℕ) (node other : Node) → node ≡ other → TakesAtLeast n (tree node) → TakesAtLeast n (tree other)
same_takes n node other same takes = subst (λ (x : Node). TakesAtLeast n (tree x)) same takes

leaf_takes : (l : Leaf) → TakesAtLeast (least_of_leaf l) (leaf l)
leaf_takes empty = λ setting bytes. Advances-stay
leaf_takes goal = λ setting bytes. Advances-stay
leaf_takes (char c) = λ setting bytes. Advances-one_character bytes _
leaf_takes (byte_sequence written) = λ setting bytes. Advances-these_bytes bytes written
leaf_takes (byte_set members) = λ setting bytes. Advances-one_character bytes _
leaf_takes (char_set members) = λ setting bytes. Advances-one_character bytes _
leaf_takes match_any = λ setting bytes. Advances-one_character bytes _
leaf_takes match_any_except_line_terminator = λ setting bytes. Advances-one_character bytes _
leaf_takes (anchor kind multiline) = λ setting bytes. Advances-hold_at _
leaf_takes (word_boundary invert unicode_icase) = λ setting bytes. Advances-hold_at _
leaf_takes (bracket invert intervals) = λ setting bytes. Advances-one_character bytes _
leaf_takes (back_ref group icase) = λ setting bytes. Advances-back_reference bytes _ _
leaf_takes (string_set strings icase) = λ setting bytes. Advances-any_string bytes _ strings

pub no_trees_take : TakesAtLeast 0 (cat no_trees)
no_trees_take = λ setting bytes. Advances-stay

pub more_trees_take : (m n : ℕ) (t : Tree) (ts : Trees) → TakesAtLeast m t → TakesAtLeast n (cat ts) → TakesAtLeast (m + n) (cat (more_trees t ts))
more_trees_take m n t ts first rest = λ setting bytes. Advances-then m n _ _ (first setting bytes) (rest setting bytes)

mutual
  -- matching forwards never moves backwards, whatever the tree contains
  takes_none : (t : Tree) → TakesAtLeast 0 t
  takes_none (leaf l) = takes_less 0 _ (leaf l) (omega arith) (leaf_takes l)
  takes_none (cat parts) = list_takes_none parts
  takes_none (alt left right) = λ setting bytes. Advances-or 0 0 _ _ (takes_none left setting bytes) (takes_none right setting bytes)
  takes_none (wrapped (capture_group id name) body) = λ setting bytes. Advances-capture 0 id _ (takes_none body setting bytes)
  takes_none (wrapped (loop q start end) body) =
      λ setting bytes. Advances-less 0 _ _ (omega arith) (Advances-repeat 0 _ q start end _ (takes_none body setting bytes))
  takes_none (wrapped (loop_one q) body) =
      λ setting bytes. Advances-less 0 _ _ (omega arith) (Advances-repeat 0 _ q 0 0 _ (takes_none body setting bytes))
  takes_none (wrapped (lookaround negate backwards start end) body) = λ setting bytes. Advances-look negate _

  list_takes_none : (ts : Trees) → TakesAtLeast 0 (cat ts)
  list_takes_none no_trees = no_trees_take
  list_takes_none (more_trees t ts) = more_trees_take 0 0 t ts (takes_none t) (list_takes_none ts)

pub here_takes : (t : Tree) → TakesAtLeast (least_here t) t
here_takes (leaf l) = leaf_takes l
here_takes (cat parts) = takes_none (cat parts)
here_takes (alt left right) = takes_none (alt left right)
here_takes (wrapped w body) = takes_none (wrapped w body)

pub cat_takes : (n : ℕ) (node : Node) (parts : Vec Node Global) (items : List Node) → node ≡ Cat parts → items ≡ parts.items →
    TakesAtLeast n (cat (trees items)) → TakesAtLeast n (tree node)
cat_takes n node parts items is same takes = rw (is, tree-Cat, ← same) takes

-- one more alternative: what holds of the remaining alternatives holds of the whole
pub alt_takes : (least n k : ℕ) (node : Node) (left right : Box Node Global) (Whole : ℕ → Type 0) → node ≡ Alt left right →
    ((m : ℕ) → TakesAtLeast m (tree node) → Whole (min least m)) → TakesAtLeast k (tree left.value) →
    TakesAtLeast n (tree right.value) → Whole (min least (min k n))
alt_takes least n k node left right Whole is whole first rest =
    let both : TakesAtLeast (min k n) (alt (tree left.value) (tree right.value)) =
    λ setting bytes. Advances-or k n _ _ (first setting bytes) (rest setting bytes) in
    whole (min k n) (rw (is, tree-Alt) both)

pub group_takes : (n : ℕ) (node : Node) (id : ℕ) (contents : Box Node Global) (name : Option (String Global)) →
    node ≡ CaptureGroup id contents name → TakesAtLeast n (tree contents.value) → TakesAtLeast n (tree node)
group_takes n node id contents name is takes = rw (is, tree-CaptureGroup) (λ setting bytes. Advances-capture n id _ (takes setting bytes))

iterations_least : (result n k : ℕ) → result ≡ min (n * k) 18446744073709551615 → result ≤ k * n
iterations_least result n k most = let swap = mul_comm n k in omega arith

pub loop_takes : (result n : ℕ) (node : Node) (loopee : Box Node Global) (q : _) (groups : Range ℕ) →
    node ≡ Loop groups loopee q → result ≡ min (n * q.min) 18446744073709551615 → TakesAtLeast n (tree loopee.value) → TakesAtLeast result (tree node)
loop_takes result n node loopee q groups is most takes =
    rw (is, tree-Loop) (λ setting bytes. Advances-less result _ _ (iterations_least result n q.min most) (Advances-repeat n _ q _ _ _ (takes setting bytes)))

pub loop_one_takes : (result n : ℕ) (node : Node) (loopee : Box Node Global) (q : _) → node ≡ Loop1CharBody loopee q →
    result ≡ min (n * q.min) 18446744073709551615 → TakesAtLeast n (tree loopee.value) → TakesAtLeast result (tree node)
loop_one_takes result n node loopee q is most takes =
    rw (is, tree-Loop1CharBody) (λ setting bytes. Advances-less result _ _ (iterations_least result n q.min most) (Advances-repeat n _ q _ _ _ (takes setting bytes)))
