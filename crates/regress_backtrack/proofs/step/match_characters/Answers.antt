use Rattle.regress_found.specs.Found.{state}
use Rattle.std.proofs.Common.{slice_get, refl}
use Rattle.regress_leaves.specs.Subject.{subject}
use Rattle.regress_backtrack.proofs.CostLemmas.{exactly_cost}
use Rattle.regress_backtrack.proofs.StepLemmas.{characters_inside, characters_named}
use Rattle.regress_backtrack.proofs.step.match_characters.Goals as goal

pub returns-in_default-clause-leads : goal.returns-in_default-clause-leads
returns-in_default-clause-leads c =
    absurd (characters_named c.args.input.now (slice_get c.args.input.now.code.now.program.leaves.items c.args.leaf) c.args.next c.args.here c.in_default.ensures
    c.args.count c.requires)

pub returns-in_default-clause-costs : goal.returns-in_default-clause-costs
returns-in_default-clause-costs c =
    absurd (characters_named c.args.input.now (slice_get c.args.input.now.code.now.program.leaves.items c.args.leaf) c.args.next c.args.here c.in_default.ensures
    c.args.count c.requires)

pub returns-clause-inside : goal.returns-clause-inside
returns-clause-inside c = λ m.
    let input = c.args.input.now in
    let u = subject input.rules input.text.now in
    let here = c.args.here in
    characters_inside input m (slice_get input.code.now.program.leaves.items c.args.leaf) c.args.next here c.reach.result c.in-Some.test.now c.args.count
    c.characters_end-to.result u.setting u.direction c.in-Some.ensures c.requires
    (c.characters_end-to.ensures.to (state m.captures.items here.position) refl) c.reach.ensures.next

pub returns-clause-costs : goal.returns-clause-costs
returns-clause-costs c = λ m outs costs.
    let input = c.args.input.now in
    let here = c.args.here in
    exactly_cost input outs costs m here c.args.next c.reach.result c.args.remaining.now c.characters_end-to.new.remaining c.reach.new.remaining
    (slice_get input.code.now.program.leaves.items c.args.leaf) c.in-Some.test.now c.args.count c.characters_end-to.result c.in-Some.ensures
    (c.characters_end-to.ensures.to (state m.captures.items here.position) refl) c.reach.ensures.next c.characters_end-to.ensures.costs c.reach.ensures.costs
