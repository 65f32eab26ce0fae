-- What is kept before the last operand.
use Rattle.regress_classes.proofs.class_sets.chain.Chain.finish.Goals as goal
use Rattle.regress_classes.proofs.class_sets.chain.Chain.finish.Goals.{in-Some+in_ok-first-in-Some, in-None}

pub returns : goal.returns
returns c = λ v b h k.
    c.in_ok-apply.ensures v b (elim c.match-taken.branch [
      | in-Some+in_ok-first-in-Some w ↦ rw w.first-is (w.in_ok-first-in-Some.ensures v (rw w.in-Some.is at h))
      | in-None w ↦ rw w.first-is (rw w.in-None.is at h)
    ]) k
