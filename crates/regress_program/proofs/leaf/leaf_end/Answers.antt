use Rattle.std.proofs.Common.{rules, ◌≡◌, ◌-◌, Some, None, [], ◌∷◌, true, map, subst, sym, ap, ◌∙◌, refl, arith}
use Rattle.regress_base.specs.Table.{denotes}
use Rattle.std.specs.Box.{boxed_slice_items}
use Rattle.regress_leaves.specs.Leaves.{is_simple}
use Rattle.regress_leaves.specs.Subject.{subject}
use Rattle.regress_tree.specs.declared.ir.node.Node.{the_lemmas}
use Rattle.regress_tree.proofs.lemmas.Nodes.{tree-Loop1CharBody}
use Rattle.regress_tree.specs.Matching.{steps}
use Rattle.regress_tree.specs.Tree.{back_ref, tree, leaf, string_set}
use Rattle.regress_program.specs.Shape.{IsPart}
use Rattle.regress_program.proofs.LeafLemmas.{back_again, sole_of, one_string}
use Rattle.regress_found.specs.Found.{state}
use Rattle.regress_program.proofs.leaf.leaf_end.Goals as goal

pub returns-in-Some-clause-to : goal.returns-in-Some-clause-to
returns-in-Some-clause-to c =
    let s = state c.args.captures.now c.args.position in
    let u = subject c.args.rules c.args.text.now in
    let group = c.in-BackRef.group in
    let icase = c.in-BackRef.icase in
    let is : tree c.args.node.now ≡ leaf (back_ref group icase) = search (rules, the_lemmas) in
    ap (λ t. steps u.setting u.bytes u.direction t s) is
    ∙ back_again u (denotes u.setting.table icase u.setting.flags.unicode) (group - 1) (Some c.in-Some.span) s c.match_again.result
    (sym c.in-Some.is ∙ c.capture_of.ensures) (c.match_again.ensures s refl)

pub index-requires : goal.index-requires
index-requires c =
    let strings = map boxed_slice_items c.in-StringSet.alternatives.items in
    let is : tree c.args.node.now ≡ leaf (string_set strings c.in-StringSet.icase) = search (rules, the_lemmas) in
    omega (arith, (sole_of c.in-StringSet.alternatives.items c.in-StringSet.icase (subst IsPart is c.requires)).0)

pub returns-in-StringSet-clause-to : goal.returns-in-StringSet-clause-to
returns-in-StringSet-clause-to c =
    let s = state c.args.captures.now c.args.position in
    let u = subject c.args.rules c.args.text.now in
    let icase = c.in-StringSet.icase in
    let strings = map boxed_slice_items c.in-StringSet.alternatives.items in
    let is : tree c.args.node.now ≡ leaf (string_set strings icase) = search (rules, the_lemmas) in
    let sole = sole_of c.in-StringSet.alternatives.items icase (subst IsPart is c.requires) in
    let string : boxed_slice_items c.index.result.now ∷ [] ≡ strings =
    ap (λ x. boxed_slice_items x ∷ []) c.index.ensures ∙ sym (sole.1 c.index.result.now) in
    ap (λ t. steps u.setting u.bytes u.direction t s)
    (is ∙ ap (λ x. leaf (string_set x icase)) (sym string) ∙ ap (λ x. leaf (string_set (x ∷ []) icase)) (sym c.deref.ensures.value))
    ∙ one_string u icase c.deref.result.now c.all_of.result c.args.position c.all_of.ensures s refl

pub returns-in_default-clause-to : goal.returns-in_default-clause-to
returns-in_default-clause-to c =
    let simple : is_simple (tree c.args.node.now) ≡ true = first_of (search (rules, the_lemmas), grind (arith, the_lemmas, c.requires)) in
    c.simple_leaf.ensures simple (state c.args.captures.now c.args.position) refl

pub returns-in_default-capture_of-clause-to : goal.returns-in_default-capture_of-clause-to
returns-in_default-capture_of-clause-to c =
    let s = state c.args.captures.now c.args.position in
    let u = subject c.args.rules c.args.text.now in
    let group = c.in-BackRef.group in
    let icase = c.in-BackRef.icase in
    let is : tree c.args.node.now ≡ leaf (back_ref group icase) = search (rules, the_lemmas) in
    ap (λ t. steps u.setting u.bytes u.direction t s) is
    ∙ back_again u (denotes u.setting.table icase u.setting.flags.unicode) (group - 1) None s (Some c.args.position)
    (sym c.in_default-capture_of.is ∙ c.capture_of.ensures) refl

pub returns-in-Loop1CharBody-clause-to : goal.returns-in-Loop1CharBody-clause-to
returns-in-Loop1CharBody-clause-to c =
    let s = state c.args.captures.now c.args.position in
    let u = subject c.args.rules c.args.text.now in
    let q = c.in-Loop1CharBody.quant in
    let is = ap tree c.in-Loop1CharBody.is ∙ tree-Loop1CharBody c.in-Loop1CharBody.loopee q in
    let part = subst IsPart is c.requires in
    ap (λ t. steps u.setting u.bytes u.direction t s) is ∙ (rw c.deref-in-Loop1CharBody.ensures at c.exactly.ensures) part.1 q refl part.0 s refl
