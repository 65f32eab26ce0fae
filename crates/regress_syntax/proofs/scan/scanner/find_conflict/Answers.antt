use Rattle.std.proofs.Common.{sym, ◌∙◌}
use Rattle.regress_syntax.proofs.ConflictLemmas.{step_conflict, step_apart, step_last, all_searched}
use Rattle.regress_syntax.proofs.scan.scanner.find_conflict.Goals as goal

pub loop-group-preserved-then-conflicts_with : goal.loop-group-preserved-then-conflicts_with
loop-group-preserved-then-conflicts_with c =
    step_conflict c.args.groups.now c.loop-group.rest.now c.in-Some.after.now c.in-Some.group.now c.in-Some-first.next.now c.loop-group.first c.greater.result
    c.in-Some.ensures.cases.0 c.in-Some-first.ensures.value (sym c.conflicts_with.ensures ∙ c.if-conflicts_with.true) c.greater.ensures
    c.loop-group.invariant

pub loop-group-preserved-else-conflicts_with : goal.loop-group-preserved-else-conflicts_with
loop-group-preserved-else-conflicts_with c =
    step_apart c.args.groups.now c.loop-group.rest.now c.in-Some.after.now c.in-Some.group.now c.in-Some-first.next.now c.loop-group.first
    c.in-Some.ensures.cases.0 c.in-Some-first.ensures.value (sym c.conflicts_with.ensures ∙ c.if-conflicts_with.false) c.loop-group.invariant

pub loop-group-preserved : goal.loop-group-preserved
loop-group-preserved c =
    step_last c.args.groups.now c.loop-group.rest.now c.in-Some.after.now c.in-Some.group.now c.loop-group.first c.in-Some.ensures.cases.0
    c.in_default-first.ensures.value c.loop-group.invariant

pub returns : goal.returns
returns c = all_searched c.args.groups.now c.loop-group.rest.now c.loop-group.first c.in_default.ensures.cases c.loop-group.invariant
