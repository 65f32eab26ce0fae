-- Other nodes are kept.
use Rattle.std.proofs.Common.{◌≡◌, ◌≤◌, ◌∙◌, ◌++◌, ℕ, length, take, drop, arith, true, false, List, Vec, Global, sym, ap, rules}
use Rattle.std.proofs.lemmas.List.{take-append-le, take_all}
use Rattle.regress_tree.specs.declared.ir.node.Node.{Node, out-Node, the_lemmas}
use Rattle.regress_tree.specs.declared.ir.node.Node.TheOpen.{Node-F}
use Rattle.regress_tree.specs.declared.ir.node.Node.TheVariants.{Char, CharSet}
use Rattle.regress_tree.proofs.lemmas.Nodes.{tree-Char, tree-CharSet, tree-Cat}
use Rattle.regress_tree.proofs.lemmas.Nesting.{out-Cat}
use Rattle.regress_tree.specs.Shapes.{is_formed_away}
use Rattle.regress_tree.specs.Tree.{tree, trees, leaf, char, char_set, cat}
use Rattle.regress_tree.specs.Walk.{direction_of}
use Rattle.regress_rewrite.proofs.lemmas.Lawful.{keep_lawful, lawful_as}
use Rattle.regress_passes.proofs.form_literal_bytes.form_literal_bytes.Goals as goal

out-Char : (c : ℕ) → out-Node (Char c) ≡ Node-F.Char c
out-Char c = search (rules, the_lemmas)

out-CharSet : (characters : Vec ℕ Global) → out-Node (CharSet characters) ≡ Node-F.CharSet characters
out-CharSet characters = search (rules, the_lemmas)

-- the items of a `Vec` of this length, once they are replaced
refilled : (n : ℕ) (old new : List Node) → n ≡ length new → take n (new ++ drop (length new) old) ≡ new
refilled n old new long =
    let within : n ≤ length new = omega arith in
    rw take-append-le (take_all n new (omega arith))

pub returns-in-Char-clause-lawful : goal.returns-in-Char-clause-lawful
returns-in-Char-clause-lawful c =
    let is = tree-Char c.in-Char.c in
    let given = ap (λ (x : ℕ). leaf (char x)) c.in-Char.c-is in
    lawful_as is_formed_away true (direction_of c.args.walk.now) c.form_character.result (given ∙ sym is ∙ sym (ap tree c.in-Char.is))
    (given ∙ rw (c.in-Char.is, out-Char) (sym is)) (c.form_character.ensures.lawful (direction_of c.args.walk.now))

pub returns-in-CharSet-clause-lawful : goal.returns-in-CharSet-clause-lawful
returns-in-CharSet-clause-lawful c =
    let is = tree-CharSet c.in-CharSet.characters in
    let given = ap (λ (cs : List ℕ). leaf (char_set cs)) (c.deref.ensures.value ∙ ap (λ (cs : Vec ℕ Global). cs.items) c.in-CharSet.characters-is) in
    lawful_as is_formed_away true (direction_of c.args.walk.now) c.form_set.result (given ∙ sym is ∙ sym (ap tree c.in-CharSet.is))
    (given ∙ rw (c.in-CharSet.is, out-CharSet) (sym is)) (c.form_set.ensures.lawful (direction_of c.args.walk.now))

pub returns-in-Cat-clause-lawful : goal.returns-in-Cat-clause-lawful
returns-in-Cat-clause-lawful c =
    let parts = c.in-Cat.parts in
    let new = c.join_parts.new.parts in
    let given = c.deref_mut.ensures.value ∙ ap (λ (ps : Vec Node Global). ps.items) c.in-Cat.parts-is in
    let long : parts.len ≡ length new = omega (arith, c.join_parts.auto.parts, ap length given, parts.ok.0) in
    lawful_as is_formed_away true (direction_of c.args.walk.now) c.join_parts.result
    (ap (λ (ns : List Node). cat (trees ns)) given ∙ sym (tree-Cat parts) ∙ sym (ap tree c.in-Cat.is))
    (ap (λ (ns : List Node). cat (trees ns)) (sym (refilled parts.len parts.items new long)) ∙ rw (c.in-Cat.is, out-Cat) (sym (tree-Cat _)))
    c.join_parts.ensures.lawful

pub returns-in_default-clause-lawful : goal.returns-in_default-clause-lawful
returns-in_default-clause-lawful c =
    let t = tree c.args.node.now in
    let none : is_formed_away t ≡ false = search (rules, the_lemmas, c.in_default.not-Char, c.in_default.not-CharSet, c.in_default.not-Cat) in
    keep_lawful is_formed_away true (direction_of c.args.walk.now) t none
