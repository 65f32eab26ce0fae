-- The law, from the side that was taken or the node that was made.
use Rattle.std.proofs.Common.{◌≡◌, false, rules, sym, ap, ap₂, ◌∙◌}
use Rattle.regress_tree.specs.declared.ir.node.Node.{the_lemmas}
use Rattle.regress_tree.specs.Tree.{Tree, alt, tree}
use Rattle.regress_tree.specs.Spine.{is_alt}
use Rattle.regress_tree.proofs.lemmas.Nodes.{tree-Alt}
use Rattle.regress_passes.proofs.FailsLemmas.{whole_lawful, alt_lawful}
use Rattle.regress_passes.proofs.propagate_early_fails.propagate_early_fails.Goals as goal

pub returns-in-Alt : goal.returns-in-Alt
returns-in-Alt c d =
    let left = c.in-Alt.left in
    let right = c.in-Alt.right in
    let first = c.deref_mut.ensures.value ∙ ap (λ b. b.value) c.in-Alt.left-is in
    let second = c.deref_mut-in-Alt.ensures.value ∙ ap (λ b. b.value) c.in-Alt.right-is in
    let is : tree c.args.node.now ≡ alt (tree c.deref_mut.result.now) (tree c.deref_mut-in-Alt.result.now) =
    ap tree c.in-Alt.is ∙ tree-Alt left right ∙ sym (ap₂ (λ (l r : Tree). alt l r) (ap tree first) (ap tree second)) in
    alt_lawful d (tree c.args.node.now) _ (tree c.deref_mut.result.now) (tree c.deref_mut-in-Alt.result.now) c.take_side.result is
    (sym c.fails_by_part.ensures ∙ c.if-not-fails_by_part.false) c.requires.free c.requires.part
    c.take_side.ensures.left c.take_side.ensures.right c.take_side.ensures.neither

pub returns-in_default : goal.returns-in_default
returns-in_default c d =
    let t = tree c.args.node.now in
    let other : is_alt t ≡ false = search (rules, the_lemmas, c.in_default.not-Alt) in
    whole_lawful d t t (sym c.fails_by_part.ensures ∙ c.if-not-fails_by_part.false) c.requires.free c.make_always_fails.result other
    c.make_always_fails.ensures c.requires.part
