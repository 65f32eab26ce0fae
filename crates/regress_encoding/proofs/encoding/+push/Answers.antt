-- The words of a node, followed by those inside it, are its encoding.
use Rattle.std.proofs.Common.{◌≡◌, true, List, ℕ, ◌++◌, ◌+◌, drop, rules, arith, append_assoc, refl, sym, ap, subst, ◌∙◌}
use Rattle.std.specs.Result.{OnOk}
use Rattle.std.proofs.lemmas.Result.{err_from_is_err_and}
use Rattle.regress_tree.specs.Copies.{is_leaf}
use Rattle.regress_tree.specs.Held.{HasBody}
use Rattle.regress_tree.specs.Tree.{Tree, Trees, leaf, cat, alt, wrapped, tree, trees}
use Rattle.regress_tree.specs.declared.ir.node.Node.{the_lemmas}
use Rattle.regress_tree.proofs.lemmas.Nodes.{leaf_of}
use Rattle.regress_encoding.specs.Encoding.{encode, encode_list, node_words}
use Rattle.regress_encoding.proofs.OrderLemmas.{next_part}
use Rattle.regress_encoding.proofs.encoding.+push.Goals as goal

-- Once the first of the remaining words are appended, the others complete the whole.
appended : {whole : List ℕ} (before first others after : List ℕ) → before ++ (first ++ others) ≡ whole → after ≡ before ++ first → after ++ others ≡ whole
appended before first others after completes is = ap (λ ws. ws ++ others) is ∙ append_assoc before first others ∙ completes

module _ {whole : List ℕ} (before after : List ℕ) (t : Tree) (completes : before ++ encode t ≡ whole) (is : after ≡ before ++ node_words t) where
  enters : (others : List ℕ) → encode t ≡ node_words t ++ others → after ++ others ≡ whole
  enters others parts = appended before (node_words t) others after (ap (λ ws. before ++ ws) (sym parts) ∙ completes) is

  enters-cat : (parts : Trees) → t ≡ cat parts → after ++ encode_list parts ≡ whole
  enters-cat parts e = enters (encode_list parts) (ap encode e ∙ ap (λ u. node_words u ++ encode_list parts) (sym e))

  enters-alt : (left right : Tree) → t ≡ alt left right → after ++ (encode left ++ encode right) ≡ whole
  enters-alt left right e =
      enters (encode left ++ encode right) (ap encode e ∙ ap (λ u. node_words u ++ (encode left ++ encode right)) (sym e))

  enters-body : (body : Tree) → HasBody t body → after ++ encode body ≡ whole
  enters-body body has = enters (encode body) (ap encode has.is ∙ ap (λ u. node_words u ++ encode body) (sym has.is))

encode-leaf : (t : Tree) → is_leaf t ≡ true → encode t ≡ node_words t
encode-leaf (leaf l) is = refl
encode-leaf (cat parts) is = cc
encode-leaf (alt left right) is = cc
encode-leaf (wrapped w body) is = cc

pub push_tree-returns-in_err-push_node : goal.push_tree-returns-in_err-push_node
push_tree-returns-in_err-push_node t c = let p = err_from_is_err_and c.from_residual.result c.from_residual.ensures.1 in rw p.1 tt

pub push_tree-returns-in-Cat : goal.push_tree-returns-in-Cat
push_tree-returns-in-Cat t c =
    let now = c.loop-parts in
    let after = c.push_node.new.words.items in
    let is : tree now.node.now ≡ cat (trees c.in-Cat.parts.items) = search (rules, the_lemmas) in
    subst (λ ws. OnOk c.push_trees.result (c.push_trees.new.words.items ≡ ws))
    (ap (λ nodes. after ++ encode_list (trees nodes)) c.deref.ensures.value
    ∙ enters-cat now.words.items after (tree now.node.now) now.invariant.completes c.in_ok-push_node.ensures (trees c.in-Cat.parts.items)
    is) c.push_trees.ensures

pub push_tree-returns-in_err-push_tree-in-Alt : goal.push_tree-returns-in_err-push_tree-in-Alt
push_tree-returns-in_err-push_tree-in-Alt t c =
    let p = err_from_is_err_and c.from_residual-in_err-push_tree-in-Alt.result c.from_residual-in_err-push_tree-in-Alt.ensures.1 in rw p.1 tt

pub push_tree-loop-parts-preserved-in-Alt : goal.push_tree-loop-parts-preserved-in-Alt
push_tree-loop-parts-preserved-in-Alt t c =
    let now = c.loop-parts in
    let after = c.push_node.new.words.items in
    let left = tree c.in-Alt.left.value in
    let right = tree c.in-Alt.right.value in
    let is : tree now.node.now ≡ alt left right = search (rules, the_lemmas) in
    record {
      smaller = first_of (search (rules, the_lemmas), grind (arith, the_lemmas));
      completes =
          ap (λ node. c.push_tree.new.words.items ++ encode (tree node)) c.deref-node.ensures
          ∙ appended after (encode left) (encode right) c.push_tree.new.words.items
          (enters-alt now.words.items after (tree now.node.now) now.invariant.completes c.in_ok-push_node.ensures left right is)
          (c.in_ok-push_tree-in-Alt.ensures ∙ ap (λ node. after ++ encode (tree node)) c.deref-in-Alt.ensures);
    }

pub push_tree-returns-in_default-body : goal.push_tree-returns-in_default-body
push_tree-returns-in_default-body t c =
    let now = c.loop-parts in
    c.in_ok-push_node.ensures
    ∙ ap (λ ws. now.words.items ++ ws)
    (sym (encode-leaf (tree now.node.now) (leaf_of now.node.now c.in_default.not-Cat c.in_default.not-Alt c.in_default-body.ensures.body)))
    ∙ now.invariant.completes

pub push_tree-loop-parts-preserved : goal.push_tree-loop-parts-preserved
push_tree-loop-parts-preserved t c =
    let now = c.loop-parts in
    record {
      smaller = first_of (search (rules, the_lemmas), grind (arith, the_lemmas));
      completes =
          enters-body now.words.items c.push_node.new.words.items (tree now.node.now) now.invariant.completes c.in_ok-push_node.ensures
          (tree c.in-Some.body.now) c.in-Some.ensures.body;
    }

pub push_trees-returns-in_err-push_tree : goal.push_trees-returns-in_err-push_tree
push_trees-returns-in_err-push_tree t c = let p = err_from_is_err_and c.from_residual.result c.from_residual.ensures.1 in rw p.1 tt

pub push_trees-loop-part-preserved : goal.push_trees-loop-part-preserved
push_trees-loop-part-preserved t c =
    let now = c.loop-part in
    let others = encode_list (trees (drop (now.part-index + 1) c.args.parts.now)) in
    appended now.words.items (encode (tree c.part-item.result)) others c.push_tree.new.words.items
    (ap (λ nodes. now.words.items ++ encode_list (trees nodes))
    (sym (next_part c.args.parts.now now.part-index c.part-item.result c.loop-part-test.true c.part-item.is))
    ∙ now.invariant) c.in_ok-push_tree.ensures
