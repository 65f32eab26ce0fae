use Rattle.std.proofs.Common.{Some, reverse, set, ap, ap₂, ◌∙◌}
use Rattle.regress_backtrack.specs.Machine.{groups_of}
use Rattle.regress_backtrack.proofs.MachineLemmas.{Kept-trans, group-ended}
use Rattle.regress_backtrack.proofs.StepLemmas.{ok_map}
use Rattle.regress_backtrack.proofs.machine.Machine.end_group.Goals as goal

pub returns-clause-groups : goal.returns-clause-groups
returns-clause-groups c =
    ok_map c.set.result _ _
    (λ x captures. λ next.
    group-ended c.args.id next c.args.here (groups_of c.args.self.now) (groups_of c.close.new.self) (groups_of c.set.new.self) c.in_ok-from.from
    c.in_ok-from.ensures.closed
    (captures ∙ ap (λ k. set c.close.new.self.captures.items k (Some (c.min.result, c.max.result))) c.from.ensures
    ∙ ap₂ (λ a b. set c.close.new.self.captures.items c.args.id (Some (a, b))) c.min.ensures c.max.ensures)
    (ap reverse c.set.ensures.begins))
    c.set.ensures.captures

pub returns-clause-kept : goal.returns-clause-kept
returns-clause-kept c =
    ok_map c.set.result _ _ (λ x kept. Kept-trans c.args.self.now c.close.new.self c.set.new.self c.in_ok-from.ensures.kept kept) c.set.ensures.kept
