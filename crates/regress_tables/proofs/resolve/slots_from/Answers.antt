use Rattle.std.proofs.Common.{IfSome, length, ap, ◌∙◌, subst}
use Rattle.std.proofs.lemmas.List.{length-replicate}
use Rattle.regress_tables.specs.Searchable.{IsEnd, IsFirstOutcome}
use Rattle.regress_tables.specs.declared.slots.Slot.TheVariants.{Unset}
use Rattle.regress_tables.proofs.ResolveLemmas.{found_some, found_none}
use Rattle.regress_tables.proofs.SearchLemmas.{ok_map}
use Rattle.regress_tables.proofs.resolve.slots_from.Goals as goal

pub returns-in-Some-clause-found : goal.returns-in-Some-clause-found
returns-in-Some-clause-found c =
    found_some c.args.filled c.args.routine c.args.position c.args.groups c.in-Some.first
    (subst (IsFirstOutcome c.args.filled c.args.routine c.args.groups c.args.position) c.in-Some.is c.in_ok-first.ensures.first)
    (subst (λ o. IfSome o (IsEnd c.args.filled c.args.routine c.args.groups)) c.in-Some.is c.in_ok-first.ensures.end)

pub returns-in-None-clause-found : goal.returns-in-None-clause-found
returns-in-None-clause-found c =
    ok_map c.unset_slots.result _ _
    (λ slots is. found_none c.args.filled c.args.routine c.args.position c.args.groups slots.items
    (subst (IsFirstOutcome c.args.filled c.args.routine c.args.groups c.args.position) c.in-None.is c.in_ok-first.ensures.first) is
    (ap length is ∙ length-replicate c.args.groups Unset))
    c.unset_slots.ensures.items
