-- The visits of a walk: on which nodes calls are made, in which order, and what they leave.
use Rattle.std.specs.Prelude.{◌≡◌, ℕ, ◌+◌, ◌≤◌, Bool, true, false, min}
use Rattle.std.specs.Borrow.{Bor, MutBor}
use Rattle.regress_tree.specs.declared.ir.node.Node.{Node}
use Rattle.regress_tree.specs.declared.ir.walker.Walk.{Walk}
use Rattle.regress_tree.specs.Tree.{Leaf, Wrapper, lookaround, Tree, Trees, leaf, cat, alt, wrapped, no_trees, more_trees, tree}

-- the depth of a child, limited by the greatest `usize`
abbrev pub deeper : ℕ → ℕ
deeper depth = min (depth + 1) 18446744073709551615

-- whether the body of a wrapper is matched backwards, given whether the wrapper is
abbrev pub is_backwards_in : Wrapper → Bool → Bool
is_backwards_in (lookaround negate backwards start end) lookbehind = backwards
is_backwards_in w lookbehind = lookbehind

-- `Call a t depth lookbehind b u skip`: a call on the tree t, at that depth and (with `lookbehind`) in a lookbehind, may take
-- the closure from state a to b, leave the tree u, and (with `skip`) ask to skip the children.
module _ {State : Type 0} (Call : State → Tree → ℕ → Bool → State → Tree → Bool → Type 0) where
  mutual
    -- A walk over the tree t, whose root is at that depth and (with `lookbehind`) in a lookbehind, may take the closure
    -- from state a to b, and leave the tree u.
    pub data Visited : (postorder : Bool) (depth : ℕ) (lookbehind : Bool) (t u : Tree) (a b : State) → Type 0 where
      -- in preorder: a call, and then the children that it left
      before_children : {d : ℕ} {lookbehind : Bool} {t left u : Tree} {a b c : State} →
          Call a t d lookbehind b left false → Inside false d lookbehind left u b c → Visited false d lookbehind t u a c
      -- in preorder: a call that asks to skip the children
      without_children : {d : ℕ} {lookbehind : Bool} {t u : Tree} {a b : State} →
          Call a t d lookbehind b u true → Visited false d lookbehind t u a b
      -- in postorder: the children, and then a call
      after_children : {d : ℕ} {lookbehind : Bool} {t left u : Tree} {a b c : State} {skip : Bool} →
          Inside true d lookbehind t left a b → Call b left d lookbehind c u skip → Visited true d lookbehind t u a c

    -- the same for the children of such a root, in order
    pub data Inside : (postorder : Bool) (depth : ℕ) (lookbehind : Bool) (t u : Tree) (a b : State) → Type 0 where
      in_leaf : {p : Bool} {d : ℕ} {lookbehind : Bool} {l : Leaf} {a : State} → Inside p d lookbehind (leaf l) (leaf l) a a
      in_cat : {p : Bool} {d : ℕ} {lookbehind : Bool} {ts us : Trees} {a b : State} →
          ListVisited p (deeper d) lookbehind ts us a b → Inside p d lookbehind (cat ts) (cat us) a b
      in_alt : {p : Bool} {d : ℕ} {lookbehind : Bool} {left left' right right' : Tree} {a b c : State} →
          Visited p (deeper d) lookbehind left left' a b → Visited p (deeper d) lookbehind right right' b c →
          Inside p d lookbehind (alt left right) (alt left' right') a c
      in_wrapped : {p : Bool} {d : ℕ} {lookbehind : Bool} {w : Wrapper} {t u : Tree} {a b : State} →
          Visited p (deeper d) (is_backwards_in w lookbehind) t u a b → Inside p d lookbehind (wrapped w t) (wrapped w u) a b

    -- and for a list of trees, in order
    pub data ListVisited : (postorder : Bool) (depth : ℕ) (lookbehind : Bool) (ts us : Trees) (a b : State) → Type 0 where
      no_more : {p : Bool} {d : ℕ} {lookbehind : Bool} {a : State} → ListVisited p d lookbehind no_trees no_trees a a
      one_more : {p : Bool} {d : ℕ} {lookbehind : Bool} {t u : Tree} {ts us : Trees} {a b c : State} →
          Visited p d lookbehind t u a b → ListVisited p d lookbehind ts us b c → ListVisited p d lookbehind (more_trees t ts) (more_trees u us) a c

-- a call with a shared reference to the node, which leaves the tree unchanged
pub record Calls {F : Type 0} (step : F → Bor Node → MutBor Walk → Unit {0} → MutBor Walk → F → Type 0) (unicode : Bool)
    (before : F) (t : Tree) (depth : ℕ) (lookbehind : Bool) (after : F) (u : Tree) (skip : Bool) : Type 0 where
  pub node : Bor Node
  pub walk : MutBor Walk
  pub walk' : MutBor Walk
  pub called : step before node walk tt walk' after
  pub on : tree node.now ≡ t
  pub shown : walk.now ≡ record { skip_children = false; depth = depth; in_lookbehind = lookbehind; unicode = unicode }
  pub leaves : u ≡ t
  pub skips : walk'.now.skip_children ≡ skip

-- a call with a mutable reference to the node
pub record CallsMut {F : Type 0} (step : F → MutBor Node → MutBor Walk → Unit {0} → MutBor Node → MutBor Walk → F → Type 0) (unicode : Bool)
    (before : F) (t : Tree) (depth : ℕ) (lookbehind : Bool) (after : F) (u : Tree) (skip : Bool) : Type 0 where
  pub node : MutBor Node
  pub walk : MutBor Walk
  pub node' : MutBor Node
  pub walk' : MutBor Walk
  pub called : step before node walk tt node' walk' after
  pub on : tree node.now ≡ t
  pub shown : walk.now ≡ record { skip_children = false; depth = depth; in_lookbehind = lookbehind; unicode = unicode }
  pub leaves : tree node'.now ≡ u
  pub skips : walk'.now.skip_children ≡ skip

-- the number of nodes of a tree
abbrev mutual
  pub nodes : Tree → ℕ
  nodes (leaf l) = 1
  nodes (cat parts) = 1 + nodes_in_list parts
  nodes (alt left right) = 1 + (nodes left + nodes right)
  nodes (wrapped w body) = 1 + nodes body

  pub nodes_in_list : Trees → ℕ
  nodes_in_list no_trees = 0
  nodes_in_list (more_trees t ts) = nodes t + nodes_in_list ts

-- No call leaves more nodes than it found.
abbrev pub AddsNoNodes : {F : Type 0} → (F → MutBor Node → MutBor Walk → Unit {0} → MutBor Node → MutBor Walk → F → Type 0) → Type 0
AddsNoNodes {F} step = (before after : F) (node node' : MutBor Node) (walk walk' : MutBor Walk) →
    step before node walk tt node' walk' after → nodes (tree node'.now) ≤ nodes (tree node.now)
