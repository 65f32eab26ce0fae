use Rattle.std.proofs.Common.{◌≡◌, ◌+◌, ◌≤◌, None, Some, [], length, subst, arith}
use Rattle.regress_leaves.specs.Leaves.{put}
use Rattle.regress_leaves.specs.Subject.{subject}
use Rattle.regress_found.specs.Found.{state}
use Rattle.regress_program.specs.Cost.{bytes_ahead, compared}
use Rattle.regress_tree.specs.Matching.{steps}
use Rattle.regress_tree.specs.Tree.{tree}
use Rattle.regress_backtrack.proofs.LeafLemmas.{leaf_outcomes, leaf_part, leaf_steps}
use Rattle.regress_backtrack.proofs.leaf_body.leaf_response.Goals as goal

pub test_end-requires : goal.test_end-requires
test_end-requires c =
    leaf_part c.args.input.now c.requires.input c.requires.program c.args.test.now c.requires.body c.args.machine.now.captures.items c.args.position c.requires.position

pub returns-in-Some-clause-responds : goal.returns-in-Some-clause-responds
returns-in-Some-clause-responds c = λ outs solve.
    let input = c.args.input.now in
    let u = subject input.rules input.text.now in
    let ends = subst (λ cs. steps u.setting u.bytes u.direction (tree c.args.test.now.node) (state cs c.args.position) ≡ put (state cs c.args.position) (Some c.in-Some.end))
    c.deref.ensures.value c.in-Some.ensures.to in (
      [],
      leaf_outcomes input c.requires.input c.requires.program c.args.test.now c.requires.body c.args.machine.now.captures.items c.args.position
          c.requires.position outs solve (Some c.in-Some.end) ends,
    )

pub returns-in-None-clause-responds : goal.returns-in-None-clause-responds
returns-in-None-clause-responds c = λ outs solve.
    let input = c.args.input.now in
    let u = subject input.rules input.text.now in
    let ends = subst (λ cs. steps u.setting u.bytes u.direction (tree c.args.test.now.node) (state cs c.args.position) ≡ put (state cs c.args.position) None)
    c.deref.ensures.value c.in-None.ensures.to in
    leaf_outcomes input c.requires.input c.requires.program c.args.test.now c.requires.body c.args.machine.now.captures.items c.args.position
    c.requires.position outs solve None ends

pub returns-in-Some-clause-costs : goal.returns-in-Some-clause-costs
returns-in-Some-clause-costs c = λ outs costs has.
    let input = c.args.input.now in
    let u = subject input.rules input.text.now in
    let ends = subst (λ cs. steps u.setting u.bytes u.direction (tree c.args.test.now.node) (state cs c.args.position) ≡ put (state cs c.args.position) (Some c.in-Some.end))
    c.deref.ensures.value c.in-Some.ensures.to in
    let all = leaf_steps input c.requires.input c.requires.program c.args.test.now c.requires.body c.args.machine.now.captures.items c.args.position
    c.requires.position outs costs has (Some c.in-Some.end) ends in
    let taken = subst (λ cs. c.args.remaining.now ≤ c.test_end.new.remaining
    + compared (bytes_ahead u.direction (length input.text.now) c.args.position) (tree c.args.test.now.node) (state cs c.args.position))
    c.deref.ensures.value c.in-Some.ensures.costs in
    omega (arith, all, taken, c.saturating_sub.ensures)

pub returns-in-None-clause-costs : goal.returns-in-None-clause-costs
returns-in-None-clause-costs c = λ outs costs has.
    let input = c.args.input.now in
    let u = subject input.rules input.text.now in
    let ends = subst (λ cs. steps u.setting u.bytes u.direction (tree c.args.test.now.node) (state cs c.args.position) ≡ put (state cs c.args.position) None)
    c.deref.ensures.value c.in-None.ensures.to in
    let all = leaf_steps input c.requires.input c.requires.program c.args.test.now c.requires.body c.args.machine.now.captures.items c.args.position
    c.requires.position outs costs has None ends in
    let taken = subst (λ cs. c.args.remaining.now ≤ c.test_end.new.remaining
    + compared (bytes_ahead u.direction (length input.text.now) c.args.position) (tree c.args.test.now.node) (state cs c.args.position))
    c.deref.ensures.value c.in-None.ensures.costs in
    omega (arith, all, taken, c.saturating_sub-in-None.ensures)
