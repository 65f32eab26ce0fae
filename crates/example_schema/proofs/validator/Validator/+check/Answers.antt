use Rattle.example_schema.proofs.validator.Validator.+check.Goals as goal

pub check_matching_members-loop-pattern-preserved : goal.check_matching_members-loop-pattern-preserved
check_matching_members-loop-pattern-preserved n c = λ before. c.loop-name.invariant (c.loop-pattern.invariant before)

pub check_matching_members-loop-name-preserved-then-branch : goal.check_matching_members-loop-name-preserved-then-branch
check_matching_members-loop-name-preserved-then-branch n c = λ before. c.in_ok-check.ensures (c.loop-name.invariant before)

pub check_members-loop-name-preserved : goal.check_members-loop-name-preserved
check_members-loop-name-preserved t c = λ before. c.in_ok-check.ensures (c.loop-name.invariant before)
