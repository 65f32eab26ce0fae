-- The result follows from that of the parts.
use Rattle.std.proofs.Common.{◌≡◌, false, rules, refl, sym, ap, ◌∙◌, subst, Ok}
use Rattle.std.proofs.lemmas.Bool.{true≢false}
use Rattle.regress_tree.specs.declared.ir.node.Node.{the_lemmas}
use Rattle.regress_tree.specs.declared.ir.node.Node.TheVariants.{ByteSet}
use Rattle.regress_tree.specs.Shapes.{is_cat}
use Rattle.regress_tree.specs.Tree.{Tree, Trees, leaf, byte_set, cat, tree, trees}
use Rattle.regress_tree.specs.Walk.{direction_of}
use Rattle.regress_tree.proofs.lemmas.Nodes.{tree-Cat, tree-ByteSet}
use Rattle.regress_tree.proofs.lemmas.Nesting.{out-Cat}
use Rattle.regress_rewrite.specs.Law.{IsPart}
use Rattle.regress_rewrite.proofs.lemmas.Segments.{is_empty-leaf}
use Rattle.regress_normalize.specs.Normalized.{Normalized}
use Rattle.regress_normalize.proofs.FinishLemmas.{parts_of_cat, fails_normalized, err_normalized, cat_normalized, empty_normalized, alone_normalized}
use Rattle.regress_normalize.proofs.cat.finish_cat.Goals as goal

pub returns-then-always_fails : goal.returns-then-always_fails
returns-then-always_fails c =
    let d = direction_of c.args.walk.now in
    let given = c.requires.parts in
    let parts = parts_of_cat c.args.list.now (tree c.args.node.now) given.parts given given.is in
    let new_is = tree-ByteSet c.new.result ∙ ap (λ bytes. leaf (byte_set bytes)) c.new.ensures.items in
    subst (λ (t : Tree). Normalized d t (tree (ByteSet c.new.result)) (Ok c.leaf_facts.result)) (sym given.is)
    (subst (λ (t : Tree). Normalized d (cat given.parts) t (Ok c.leaf_facts.result)) (sym new_is)
    (fails_normalized d c.args.list.now given.parts parts (subst (λ (t : Tree). IsPart t) given.is c.requires.part)
    (sym c.always_fails.ensures ∙ c.if-always_fails.true) c.leaf_facts.result (rw new_is at c.leaf_facts.ensures.has)
    c.leaf_facts.ensures.was))

pub unreachable-requires : goal.unreachable-requires
unreachable-requires c =
    let other : is_cat (tree c.args.node.now) ≡ false = search (rules, the_lemmas, c.in_default.not-Cat) in
    absurd (true≢false (sym (ap is_cat c.requires.parts.is) ∙ other))

pub returns-in_err-taken : goal.returns-in_err-taken
returns-in_err-taken c =
    let d = direction_of c.args.walk.now in
    let ts = trees c.in-Cat.parts.items in
    let parts = parts_of_cat c.args.list.now (tree c.args.node.now) ts c.requires.parts (ap tree c.in-Cat.is ∙ tree-Cat c.in-Cat.parts) in
    let keeps = rw c.in-Cat.parts-is at c.pack.ensures.keeps in
    let left = rw c.in-Cat.parts-is at c.pack.ensures.left in
    let goals = rw c.in-Cat.parts-is at c.pack.ensures.goal in
    rw (c.in-Cat.is, out-Cat) (simp tree-Cat
    (err_normalized d c.args.list.now ts parts (trees c.pack.new.parts.items) keeps left goals c.from_residual.result c.from_residual.ensures.0))

pub returns-in_default-collapse : goal.returns-in_default-collapse
returns-in_default-collapse c =
    let d = direction_of c.args.walk.now in
    let list = c.args.list.now in
    let ts = trees c.in-Cat.parts.items in
    let parts = parts_of_cat list (tree c.args.node.now) ts c.requires.parts (ap tree c.in-Cat.is ∙ tree-Cat c.in-Cat.parts) in
    let keeps = rw c.in-Cat.parts-is at c.pack.ensures.keeps in
    let left = rw c.in-Cat.parts-is at c.pack.ensures.left in
    let goals = rw c.in-Cat.parts-is at c.pack.ensures.goal in
    let done = rw c.in-Cat.parts-is at c.in_ok-taken.ensures.packed in
    let lasting = sym c.always_fails.ensures ∙ c.if-always_fails.false in
    let none = c.collapse.ensures.none c.in_default-collapse.is in
    rw (c.in-Cat.is, out-Cat) (simp tree-Cat
    (subst (λ (us : Trees). Normalized d (cat ts) (cat us) c.facts_of.result) (sym none.0)
    (cat_normalized d list ts parts (trees c.pack.new.parts.items) keeps left goals c.in_ok-taken.taken done lasting none.1 c.facts_of.result
    (c.facts_of.ensures.cat refl))))

pub returns-then-is_empty : goal.returns-then-is_empty
returns-then-is_empty c =
    let d = direction_of c.args.walk.now in
    let list = c.args.list.now in
    let ts = trees c.in-Cat.parts.items in
    let node_is : tree c.args.node.now ≡ cat ts = ap tree c.in-Cat.is ∙ tree-Cat c.in-Cat.parts in
    let parts = parts_of_cat list (tree c.args.node.now) ts c.requires.parts node_is in
    let keeps = rw c.in-Cat.parts-is at c.pack.ensures.keeps in
    let left = rw c.in-Cat.parts-is at c.pack.ensures.left in
    let goals = rw c.in-Cat.parts-is at c.pack.ensures.goal in
    let done = rw c.in-Cat.parts-is at c.in_ok-taken.ensures.packed in
    let lasting = sym c.always_fails.ensures ∙ c.if-always_fails.false in
    let known = c.leaf_facts-then-is_empty in
    subst (λ (t : Tree). Normalized d t (tree c.in-Some.alone) (Ok known.result)) (sym node_is)
    (empty_normalized d list ts parts (trees c.pack.new.parts.items) keeps left goals c.in_ok-taken.taken done lasting (tree c.in-Some.alone)
    c.in-Some.ensures.some (sym c.is_empty.ensures ∙ c.if-is_empty.true) known.result
    (rw (is_empty-leaf (tree c.in-Some.alone) (sym c.is_empty.ensures ∙ c.if-is_empty.true)) at known.ensures.has)
    known.ensures.was)

pub returns : goal.returns
returns c =
    let d = direction_of c.args.walk.now in
    let list = c.args.list.now in
    let ts = trees c.in-Cat.parts.items in
    let node_is : tree c.args.node.now ≡ cat ts = ap tree c.in-Cat.is ∙ tree-Cat c.in-Cat.parts in
    let parts = parts_of_cat list (tree c.args.node.now) ts c.requires.parts node_is in
    let keeps = rw c.in-Cat.parts-is at c.pack.ensures.keeps in
    let left = rw c.in-Cat.parts-is at c.pack.ensures.left in
    let goals = rw c.in-Cat.parts-is at c.pack.ensures.goal in
    let done = rw c.in-Cat.parts-is at c.in_ok-taken.ensures.packed in
    let lasting = sym c.always_fails.ensures ∙ c.if-always_fails.false in
    subst (λ (t : Tree). Normalized d t (tree c.in-Some.alone) c.facts_of-2.result) (sym node_is)
    (alone_normalized d list ts parts (trees c.pack.new.parts.items) keeps left goals c.in_ok-taken.taken done lasting (tree c.in-Some.alone)
    c.in-Some.ensures.some (sym c.is_empty.ensures ∙ c.if-is_empty.false) c.facts_of-2.result (c.facts_of-2.ensures.alone refl))
