-- A `Node` as plain data, without addresses: contracts state properties of this type.
use Rattle.std.specs.Prelude.{ℕ, zero, suc, Bool, List, [], ◌∷◌, map, Option, option_map, string_bytes}
use Rattle.std.specs.Box.{boxed_slice_items}
use Rattle.regress_base.specs.Intervals.{Bounds}
use Rattle.regress_base.specs.declared.types.AnchorType.{AnchorType}
use Rattle.regress_base.specs.declared.types.Quantifier.{Quantifier}
use Rattle.regress_tree.specs.declared.ir.node.Node.{Node, fold-Node}
use Rattle.regress_tree.specs.declared.ir.node.Node.TheOpen.{Node-F}

-- the kinds of `Node` that contain no node, with the names of the variants
pub data Leaf : Type 0 where
  empty : Leaf
  goal : Leaf
  char : (c : ℕ) → Leaf
  byte_sequence : (bytes : List ℕ) → Leaf
  byte_set : (bytes : List ℕ) → Leaf
  char_set : (characters : List ℕ) → Leaf
  match_any : Leaf
  match_any_except_line_terminator : Leaf
  anchor : (kind : AnchorType) (multiline : Bool) → Leaf
  word_boundary : (invert unicode_icase : Bool) → Leaf
  bracket : (invert : Bool) (intervals : List Bounds) → Leaf
  -- groups are numbered from 1: group 1 is the one with id 0
  back_ref : (group : ℕ) (icase : Bool) → Leaf
  string_set : (strings : List (List ℕ)) (icase : Bool) → Leaf

-- the kinds of `Node` with a body, without the body
pub data Wrapper : Type 0 where
  -- the name as UTF-8
  capture_group : (id : ℕ) (name : Option (List ℕ)) → Wrapper
  -- the groups start to end - 1 are inside
  loop : (quantifier : Quantifier) (start end : ℕ) → Wrapper
  loop_one : (quantifier : Quantifier) → Wrapper
  -- the groups start to end - 1 are inside
  lookaround : (negate backwards : Bool) (start end : ℕ) → Wrapper

mutual
  -- a leaf, a `Cat`, an `Alt`, or a node with a body
  pub data Tree : Type 0 where
    leaf : (l : Leaf) → Tree
    cat : (parts : Trees) → Tree
    alt : (left right : Tree) → Tree
    wrapped : (w : Wrapper) (body : Tree) → Tree

  -- lists of trees
  pub data Trees : Type 0 where
    no_trees : Trees
    more_trees : (first : Tree) (rest : Trees) → Trees

-- a `List` as `Trees`
abbrev pub list : List Tree → Trees
list [] = no_trees
list (t ∷ ts) = more_trees t (list ts)

-- the two lists joined
abbrev pub append_trees : Trees → Trees → Trees
append_trees no_trees us = us
append_trees (more_trees t ts) us = more_trees t (append_trees ts us)

-- the list of n times the same tree
abbrev pub copies : ℕ → Tree → Trees
copies zero t = no_trees
copies (suc n) t = more_trees t (copies n t)

-- the list in reverse order
abbrev pub reverse_trees : Trees → Trees
reverse_trees no_trees = no_trees
reverse_trees (more_trees t ts) = append_trees (reverse_trees ts) (more_trees t no_trees)

-- the tree of a node, given the trees of its children
abbrev pub tree_of_level : Node-F Tree → Tree
tree_of_level Node-F.Empty = leaf empty
tree_of_level Node-F.Goal = leaf goal
tree_of_level (Node-F.Char c) = leaf (char c)
tree_of_level (Node-F.ByteSequence bytes) = leaf (byte_sequence bytes.items)
tree_of_level (Node-F.ByteSet bytes) = leaf (byte_set bytes.items)
tree_of_level (Node-F.CharSet characters) = leaf (char_set characters.items)
tree_of_level (Node-F.Cat parts) = cat (list parts.items)
tree_of_level (Node-F.Alt left right) = alt left.value right.value
tree_of_level Node-F.MatchAny = leaf match_any
tree_of_level Node-F.MatchAnyExceptLineTerminator = leaf match_any_except_line_terminator
tree_of_level (Node-F.Anchor kind multiline) = leaf (anchor kind multiline)
tree_of_level (Node-F.WordBoundary invert unicode_icase) = leaf (word_boundary invert unicode_icase)
tree_of_level (Node-F.CaptureGroup id contents name) = wrapped (capture_group id (option_map string_bytes name)) contents.value
tree_of_level (Node-F.Bracket contents) = leaf (bracket contents.invert contents.cps)
tree_of_level (Node-F.Loop groups loopee quantifier) = wrapped (loop quantifier groups.start groups.end) loopee.value
tree_of_level (Node-F.Loop1CharBody loopee quantifier) = wrapped (loop_one quantifier) loopee.value
tree_of_level (Node-F.LookaroundAssertion negate backwards start end contents) =
    wrapped (lookaround negate backwards start end) contents.value
tree_of_level (Node-F.BackRef group icase) = leaf (back_ref group icase)
tree_of_level (Node-F.StringSet alternatives icase) = leaf (string_set (map boxed_slice_items alternatives.items) icase)

-- the tree of a node
abbrev pub tree : Node → Tree
tree = fold-Node Tree tree_of_level

-- the trees of a list of nodes
abbrev pub trees : List Node → Trees
trees nodes = list (map tree nodes)
