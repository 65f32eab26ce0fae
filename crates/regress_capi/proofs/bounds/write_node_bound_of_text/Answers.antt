use Rattle.std.proofs.Common.{◌≡◌, subst, ◌∙◌, chars}
use Rattle.regress_capi.specs.BoundResults.{IsNodeBound, bad, bounded, out_of_memory}
use Rattle.regress_capi.specs.Request.{front_setting}
use Rattle.regress_capi.proofs.bounds.write_node_bound_of_text.Goals as goal

-- the bound is that of the code points of the bytes
pub returns-in-Ok-Some : goal.returns-in-Ok-Some
returns-in-Ok-Some c =
    let read = rw c.in-Ok-Some.field-0-is at c.in-Ok-Some.ensures.points in
    let same : c.deref.result.now ≡ chars c.args.pattern.now = c.deref.ensures.value ∙ read.1 in
    let bound = subst (λ flags. IsNodeBound flags c.deref.result.now c.node_bound.result) c.front_flags.ensures
    (record { value = c.node_bound.ensures.value; nodes = c.node_bound.ensures.nodes }) in
    record { status = bounded read.0 (subst (λ source. IsNodeBound (front_setting c.args.bits).flags source c.node_bound.result) same bound) }

pub returns-in-Ok-None : goal.returns-in-Ok-None
returns-in-Ok-None c = record { status = bad (rw c.in-Ok-None.field-0-is at c.in-Ok-None.ensures.points) }

pub returns-in-Err : goal.returns-in-Err
returns-in-Err c = record { status = out_of_memory c.in-Err.ensures.out_of_memory }
