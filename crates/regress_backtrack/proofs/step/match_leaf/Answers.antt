use Rattle.std.proofs.Common.{◌≡◌, ◌+◌, ◌≤◌, length, slice_get, subst}
use Rattle.regress_leaves.specs.Leaves.{put}
use Rattle.regress_leaves.specs.Subject.{subject}
use Rattle.regress_found.specs.Found.{state}
use Rattle.regress_program.specs.Cost.{bytes_ahead, compared}
use Rattle.regress_tree.specs.Matching.{steps}
use Rattle.regress_tree.specs.Tree.{tree}
use Rattle.regress_backtrack.proofs.CostLemmas.{leaf_cost}
use Rattle.regress_backtrack.proofs.StepLemmas.{leaf_inside, leaf_named}
use Rattle.regress_backtrack.proofs.step.match_leaf.Goals as goal

pub returns-in_default-clause-leads : goal.returns-in_default-clause-leads
returns-in_default-clause-leads c =
    absurd (leaf_named c.args.input.now (slice_get c.args.input.now.code.now.program.leaves.items c.args.leaf) c.args.next c.args.here c.in_default.ensures c.requires)

pub returns-in_default-clause-costs : goal.returns-in_default-clause-costs
returns-in_default-clause-costs c =
    absurd (leaf_named c.args.input.now (slice_get c.args.input.now.code.now.program.leaves.items c.args.leaf) c.args.next c.args.here c.in_default.ensures c.requires)

pub returns-clause-inside : goal.returns-clause-inside
returns-clause-inside c =
    let input = c.args.input.now in
    let u = subject input.rules input.text.now in
    let t = c.in-Some.test.now in
    leaf_inside input c.args.machine.now (slice_get input.code.now.program.leaves.items c.args.leaf) c.args.next c.args.here c.reach.result t c.test_end-to.result u.setting
    u.direction c.in-Some.ensures c.requires
    (subst (λ cs. steps u.setting u.bytes u.direction (tree t.node) (state cs c.args.here.position) ≡ put (state cs c.args.here.position) c.test_end-to.result)
    c.deref.ensures.value c.test_end-to.ensures.to) c.reach.ensures.next

pub returns-clause-costs : goal.returns-clause-costs
returns-clause-costs c = λ outs costs.
    let input = c.args.input.now in
    let u = subject input.rules input.text.now in
    let m = c.args.machine.now in
    let t = c.in-Some.test.now in
    let p = c.args.here in
    leaf_cost input outs costs m p c.args.next c.reach.result c.args.remaining.now c.test_end-to.new.remaining c.reach.new.remaining
    (slice_get input.code.now.program.leaves.items c.args.leaf) t c.test_end-to.result c.in-Some.ensures
    (subst (λ cs. steps u.setting u.bytes u.direction (tree t.node) (state cs p.position) ≡ put (state cs p.position) c.test_end-to.result)
    c.deref.ensures.value c.test_end-to.ensures.to) c.reach.ensures.next
    (subst (λ cs. c.args.remaining.now ≤ c.test_end-to.new.remaining + compared (bytes_ahead u.direction (length input.text.now) p.position) (tree t.node) (state cs p.position)) c.deref.ensures.value c.test_end-to.ensures.costs)
    c.reach.ensures.costs
