use Rattle.std.proofs.Common.{rules, ◌≡◌, [], ◌∷◌, true, refl, map, subst, sym, ap, ◌∙◌, arith}
use Rattle.std.specs.Box.{boxed_slice_items}
use Rattle.regress_leaves.specs.Leaves.{is_simple}
use Rattle.regress_leaves.specs.Subject.{subject}
use Rattle.regress_tree.specs.declared.ir.node.Node.{the_lemmas}
use Rattle.regress_tree.proofs.lemmas.Nodes.{tree-Loop1CharBody}
use Rattle.regress_tree.specs.Matching.{steps}
use Rattle.regress_tree.specs.Tree.{tree, leaf, string_set}
use Rattle.regress_program.specs.Shape.{IsPart}
use Rattle.regress_tables.proofs.EvaluateLemmas.{sole_of, one_string}
use Rattle.regress_tables.proofs.evaluate.leaf_end.Goals as goal

pub index-requires : goal.index-requires
index-requires c =
    let strings = map boxed_slice_items c.in-StringSet.alternatives.items in
    let is : tree c.args.node.now ≡ leaf (string_set strings c.in-StringSet.icase) = search (rules, the_lemmas) in
    omega (arith, (sole_of c.in-StringSet.alternatives.items c.in-StringSet.icase (subst IsPart is c.requires.part)).0)

pub returns-in-StringSet : goal.returns-in-StringSet
returns-in-StringSet c = λ s at.
    let u = subject c.args.rules c.args.text.now in
    let icase = c.in-StringSet.icase in
    let strings = map boxed_slice_items c.in-StringSet.alternatives.items in
    let is : tree c.args.node.now ≡ leaf (string_set strings icase) = search (rules, the_lemmas) in
    let sole = sole_of c.in-StringSet.alternatives.items icase (subst IsPart is c.requires.part) in
    let string : boxed_slice_items c.index.result.now ∷ [] ≡ strings =
    ap (λ x. boxed_slice_items x ∷ []) c.index.ensures ∙ sym (sole.1 c.index.result.now) in
    ap (λ t. steps u.setting u.bytes u.direction t s)
    (is ∙ ap (λ x. leaf (string_set x icase)) (sym string) ∙ ap (λ x. leaf (string_set (x ∷ []) icase)) (sym c.deref.ensures.value))
    ∙ one_string u icase c.deref.result.now c.all_of.result c.args.position c.all_of.ensures s at

pub returns-in_default : goal.returns-in_default
returns-in_default c =
    let simple : is_simple (tree c.args.node.now) ≡ true = first_of (search (rules, the_lemmas), grind (arith, the_lemmas, c.requires.part, c.requires.captures)) in
    c.simple_leaf.ensures simple

pub returns-in-Loop1CharBody : goal.returns-in-Loop1CharBody
returns-in-Loop1CharBody c = λ s at.
    let u = subject c.args.rules c.args.text.now in
    let q = c.in-Loop1CharBody.quant in
    let is = ap tree c.in-Loop1CharBody.is ∙ tree-Loop1CharBody c.in-Loop1CharBody.loopee q in
    let part = subst IsPart is c.requires.part in
    ap (λ t. steps u.setting u.bytes u.direction t s) is ∙ (rw c.deref-in-Loop1CharBody.ensures at c.exactly.ensures) part.1 q refl part.0 s at
