-- The tree of a node, kind by kind.
use Rattle.std.specs.Prelude.{◌≡◌, ℕ, Bool, true, false, Option, option_map, string_bytes, String, map}
use Rattle.std.proofs.Common.{Vec, Box, Global, sym, ap, ◌∙◌, rules, arith}
use Rattle.std.specs.Box.{boxed_slice_items}
use Rattle.std.specs.declared.boxed.BoxedSlice.{BoxedSlice}
use Rattle.regress_tree.specs.declared.ir.node.Node.{Node, Node-F, fold-roll-Node, the_lemmas}
use Rattle.regress_tree.specs.declared.ir.node.Node.TheVariants.{Empty, Goal, Char, ByteSequence, ByteSet, CharSet, Anchor, Cat, Alt, CaptureGroup, Bracket, Loop, Loop1CharBody, LookaroundAssertion, BackRef, StringSet, rolls-Empty, rolls-Goal, rolls-Char, rolls-ByteSequence, rolls-ByteSet, rolls-CharSet, rolls-Anchor, rolls-Cat, rolls-Alt, rolls-CaptureGroup, rolls-Bracket, rolls-Loop, rolls-Loop1CharBody, rolls-LookaroundAssertion, rolls-BackRef, rolls-StringSet}
use Rattle.regress_base.specs.declared.types.AnchorType.{AnchorType}
use Rattle.regress_base.specs.declared.types.Quantifier.{Quantifier}
use Rattle.regress_base.specs.declared.types.bracket.BracketContents.{BracketContents}
use Rattle.std.specs.declared.ops.Range.{Range}
use Rattle.regress_tree.specs.Copies.{is_leaf}
use Rattle.regress_tree.specs.Held.{is_wrapper}
use Rattle.regress_tree.specs.Tree.{Tree, tree, trees, tree_of_level, leaf, empty, goal, char, byte_sequence, byte_set, char_set, anchor, cat, alt, bracket, back_ref, string_set, wrapped, capture_group, loop, loop_one, lookaround}

pub tree-Empty : tree Empty ≡ leaf empty
tree-Empty = ap tree (sym rolls-Empty) ∙ fold-roll-Node Tree tree_of_level Node-F.Empty

pub tree-Goal : tree Goal ≡ leaf goal
tree-Goal = ap tree (sym rolls-Goal) ∙ fold-roll-Node Tree tree_of_level Node-F.Goal

pub tree-Char : (c : ℕ) → tree (Char c) ≡ leaf (char c)
tree-Char c = ap tree (sym (rolls-Char c)) ∙ fold-roll-Node Tree tree_of_level (Node-F.Char c)

pub tree-ByteSequence : (bytes : Vec ℕ Global) → tree (ByteSequence bytes) ≡ leaf (byte_sequence bytes.items)
tree-ByteSequence bytes = ap tree (sym (rolls-ByteSequence bytes)) ∙ fold-roll-Node Tree tree_of_level (Node-F.ByteSequence bytes)

pub tree-ByteSet : (bytes : Vec ℕ Global) → tree (ByteSet bytes) ≡ leaf (byte_set bytes.items)
tree-ByteSet bytes = ap tree (sym (rolls-ByteSet bytes)) ∙ fold-roll-Node Tree tree_of_level (Node-F.ByteSet bytes)

pub tree-CharSet : (characters : Vec ℕ Global) → tree (CharSet characters) ≡ leaf (char_set characters.items)
tree-CharSet characters =
    ap tree (sym (rolls-CharSet characters)) ∙ fold-roll-Node Tree tree_of_level (Node-F.CharSet characters)

pub tree-Anchor : (kind : AnchorType) (multiline : Bool) → tree (Anchor kind multiline) ≡ leaf (anchor kind multiline)
tree-Anchor kind multiline = ap tree (sym (rolls-Anchor kind multiline)) ∙ fold-roll-Node Tree tree_of_level (Node-F.Anchor kind multiline)

pub tree-Cat : (parts : Vec Node Global) → tree (Cat parts) ≡ cat (trees parts.items)
tree-Cat parts = ap tree (sym (rolls-Cat parts)) ∙ fold-roll-Node Tree tree_of_level (Node-F.Cat parts)

pub tree-Alt : (left right : Box Node Global) → tree (Alt left right) ≡ alt (tree left.value) (tree right.value)
tree-Alt left right = ap tree (sym (rolls-Alt left right)) ∙ fold-roll-Node Tree tree_of_level (Node-F.Alt left right)

pub tree-CaptureGroup : (id : ℕ) (contents : Box Node Global) (name : Option (String Global)) →
    tree (CaptureGroup id contents name) ≡ wrapped (capture_group id (option_map string_bytes name)) (tree contents.value)
tree-CaptureGroup id contents name =
    ap tree (sym (rolls-CaptureGroup id contents name)) ∙ fold-roll-Node Tree tree_of_level (Node-F.CaptureGroup id contents name)

pub tree-Bracket : (contents : BracketContents) → tree (Bracket contents) ≡ leaf (bracket contents.invert contents.cps)
tree-Bracket contents = ap tree (sym (rolls-Bracket contents)) ∙ fold-roll-Node Tree tree_of_level (Node-F.Bracket contents)

pub tree-Loop : (loopee : Box Node Global) (quantifier : Quantifier) (groups : Range ℕ) →
    tree (Loop groups loopee quantifier) ≡ wrapped (loop quantifier groups.start groups.end) (tree loopee.value)
tree-Loop loopee quantifier groups =
    ap tree (sym (rolls-Loop groups loopee quantifier)) ∙ fold-roll-Node Tree tree_of_level (Node-F.Loop groups loopee quantifier)

pub tree-Loop1CharBody : (loopee : Box Node Global) (quantifier : Quantifier) →
    tree (Loop1CharBody loopee quantifier) ≡ wrapped (loop_one quantifier) (tree loopee.value)
tree-Loop1CharBody loopee quantifier =
    ap tree (sym (rolls-Loop1CharBody loopee quantifier)) ∙ fold-roll-Node Tree tree_of_level (Node-F.Loop1CharBody loopee quantifier)

pub tree-LookaroundAssertion : (negate backwards : Bool) (start end : ℕ) (contents : Box Node Global) →
    tree (LookaroundAssertion negate backwards start end contents) ≡ wrapped (lookaround negate backwards start end) (tree contents.value)
tree-LookaroundAssertion negate backwards start end contents =
    ap tree (sym (rolls-LookaroundAssertion negate backwards start end contents))
    ∙ fold-roll-Node Tree tree_of_level (Node-F.LookaroundAssertion negate backwards start end contents)

pub tree-BackRef : (group : ℕ) (icase : Bool) → tree (BackRef group icase) ≡ leaf (back_ref group icase)
tree-BackRef group icase = ap tree (sym (rolls-BackRef group icase)) ∙ fold-roll-Node Tree tree_of_level (Node-F.BackRef group icase)

pub tree-StringSet : (alternatives : Vec (BoxedSlice ℕ Global) Global) (icase : Bool) →
    tree (StringSet alternatives icase) ≡ leaf (string_set (map boxed_slice_items alternatives.items) icase)
tree-StringSet alternatives icase =
    ap tree (sym (rolls-StringSet alternatives icase)) ∙ fold-roll-Node Tree tree_of_level (Node-F.StringSet alternatives icase)

-- A node that is neither a `Cat` nor an `Alt` and has no body is a leaf.
pub leaf_of : (node : Node) → ((parts : Vec Node Global) → node ≡ Cat parts → ⊥) → ((left right : Box Node Global) → node ≡ Alt left right → ⊥) →
    is_wrapper (tree node) ≡ false → is_leaf (tree node) ≡ true
leaf_of node not_cat not_alt no_wrapper = first_of (search (rules, the_lemmas), grind (arith, the_lemmas))
