use Rattle.std.proofs.Common.{rules, arith, ◌≡◌, ℕ, ◌+◌, ◌-◌, ◌≤◌, [], ◌++◌, IfErr, flat_map, if◌then◌else◌, length, min, reverse, sum_by, ap, ap₂, subst, sym}
use Rattle.regress_tree.specs.Repetition.{unset_from}
use Rattle.regress_found.specs.declared.fault.MemoryFault.TheVariants.{TooMuchMemory}
use Rattle.regress_leaves.specs.Subject.{subject}
use Rattle.regress_program.specs.Program.{Out, either, enter, goto, matcher_of, outcomes_by}
use Rattle.regress_code.specs.Code.{code_routines}
use Rattle.regress_backtrack.specs.Costs.{op_cost}
use Rattle.regress_backtrack.specs.Machine.{at, groups_of, points}
use Rattle.regress_backtrack.specs.Next.{Leads}
use Rattle.regress_program.specs.Views.{op_in}
use Rattle.regress_backtrack.specs.Memory.{entry_count}
use Rattle.regress_backtrack.proofs.MachineLemmas.{groups-same}
use Rattle.regress_backtrack.proofs.MemoryLemmas.{counted_by_blocks}
use Rattle.regress_backtrack.proofs.StepLemmas.{Goes, err_map, ok_both, ok_map}
use Rattle.regress_backtrack.proofs.step.step.Goals as goal

pub returns-in-Accept-clause-leads : goal.returns-in-Accept-clause-leads
returns-in-Accept-clause-leads c = λ outs solves.
    let input = c.args.input.now in
    let u = subject input.rules input.text.now in
    let out = outs input.index in
    let m = c.args.machine.now in (
      flat_map out (points m),
      ap (λ i. outcomes_by u.setting u.bytes u.direction (matcher_of u.setting u.bytes (code_routines input.code.now) outs) out
          (op_in input.code.now.program.leaves.items i) (at c.args.here (groups_of m))
          ++ flat_map out (points m)) c.in-Accept.is,
    )

pub returns-in-Leaf-clause-leads : goal.returns-in-Leaf-clause-leads
returns-in-Leaf-clause-leads c =
    let input = c.args.input.now in
    let u = subject input.rules input.text.now in
    let m = c.args.machine.now in
    λ outs solves.
    subst (λ i. Goes (outs input.index) m m
    (outcomes_by u.setting u.bytes u.direction (matcher_of u.setting u.bytes (code_routines input.code.now) outs) (outs input.index)
    (op_in input.code.now.program.leaves.items i) (at c.args.here (groups_of m))) c.match_leaf.result)
    (sym c.in-Leaf.is) (c.match_leaf.ensures.leads (matcher_of u.setting u.bytes (code_routines input.code.now) outs) (outs input.index))

pub returns-in-Characters-clause-leads : goal.returns-in-Characters-clause-leads
returns-in-Characters-clause-leads c =
    let input = c.args.input.now in
    let u = subject input.rules input.text.now in
    let m = c.args.machine.now in
    λ outs solves.
    subst (λ i. Goes (outs input.index) m m
    (outcomes_by u.setting u.bytes u.direction (matcher_of u.setting u.bytes (code_routines input.code.now) outs) (outs input.index)
    (op_in input.code.now.program.leaves.items i) (at c.args.here (groups_of m))) c.match_characters.result)
    (sym c.in-Characters.is) (c.match_characters.ensures.leads m (matcher_of u.setting u.bytes (code_routines input.code.now) outs) (outs input.index))

pub returns-in-Split-clause-leads : goal.returns-in-Split-clause-leads
returns-in-Split-clause-leads c =
    let input = c.args.input.now in
    let u = subject input.rules input.text.now in
    let m = c.args.machine.now in
    let g = groups_of m in
    let tests = input.code.now.program.leaves.items in
    let body_of = λ (outs : ℕ → Out). matcher_of u.setting u.bytes (code_routines input.code.now) outs in
    let rest = λ (outs : ℕ → Out). flat_map (outs input.index) (points m) in
    ok_map c.fork.result _ _
    (λ next leads. λ outs solve.
    subst (λ i. Leads (outcomes_by u.setting u.bytes u.direction (body_of outs) (outs input.index) (op_in tests i) (at c.args.here g) ++ rest outs)
    (outs input.index) c.fork.new.machine next) (sym c.in-Split.is)
    (subst (λ p. Leads ((outs input.index (at p g) ++ outs input.index (goto c.in-Split.second (at c.args.here g))) ++ rest outs) (outs input.index)
    c.fork.new.machine next) c.goto.ensures
    (subst (λ p. Leads ((outs input.index (at c.goto.result g) ++ outs input.index (at p g)) ++ rest outs) (outs input.index) c.fork.new.machine next)
    c.goto-in-Split.ensures (leads outs solve))))
    c.fork.ensures.leads

pub returns-in-BeginLoop-clause-leads : goal.returns-in-BeginLoop-clause-leads
returns-in-BeginLoop-clause-leads c =
    let input = c.args.input.now in
    let u = subject input.rules input.text.now in
    let m = c.args.machine.now in
    let g = groups_of m in
    let tests = input.code.now.program.leaves.items in
    let body_of = λ (outs : ℕ → Out). matcher_of u.setting u.bytes (code_routines input.code.now) outs in
    ok_map c.iterate.result _ _
    (λ next leads. λ outs solve.
    subst (λ i. Leads (outcomes_by u.setting u.bytes u.direction (body_of outs) (outs input.index) (op_in tests i) (at c.args.here g)
    ++ flat_map (outs input.index) (points m)) (outs input.index) c.iterate.new.machine next) (sym c.in-BeginLoop.is) (leads outs solve))
    c.iterate.ensures.leads

pub returns-then-here-clause-leads : goal.returns-then-here-clause-leads
returns-then-here-clause-leads c =
    let input = c.args.input.now in
    let u = subject input.rules input.text.now in
    let m = c.args.machine.now in
    let g = groups_of m in
    let tests = input.code.now.program.leaves.items in
    let body_of = λ (outs : ℕ → Out). matcher_of u.setting u.bytes (code_routines input.code.now) outs in
    let a = at c.args.here g in
    ok_map c.iterate-then-here.result _ _
    (λ next leads. λ outs solve.
    subst (λ i. Leads (outcomes_by u.setting u.bytes u.direction (body_of outs) (outs input.index) (op_in tests i) a
    ++ flat_map (outs input.index) (points m)) (outs input.index) c.iterate-then-here.new.machine next) (sym c.in-Repeat.is)
    (subst (λ moved. Leads ((if moved then either (outs input.index) c.in-Repeat.greedy (enter c.in-Repeat.body a) (goto c.in-Repeat.next a) else [])
    ++ flat_map (outs input.index) (points m)) (outs input.index) c.iterate-then-here.new.machine next) (sym c.if-here.true) (leads outs solve)))
    c.iterate-then-here.ensures.leads

-- ---- the cost

pub returns-in-Leaf-clause-costs : goal.returns-in-Leaf-clause-costs
returns-in-Leaf-clause-costs c = λ outs costs has.
    let input = c.args.input.now in
    let a = at c.args.here (groups_of c.args.machine.now) in
    let is = ap (λ i. op_cost input outs costs (op_in input.code.now.program.leaves.items i) a) c.in-Leaf.is in
    let taken = c.match_leaf.ensures.costs outs costs in
    omega (arith, is, taken)

pub returns-in-Characters-clause-costs : goal.returns-in-Characters-clause-costs
returns-in-Characters-clause-costs c = λ outs costs has.
    let input = c.args.input.now in
    let a = at c.args.here (groups_of c.args.machine.now) in
    let is = ap (λ i. op_cost input outs costs (op_in input.code.now.program.leaves.items i) a) c.in-Characters.is in
    let taken = c.match_characters.ensures.costs c.args.machine.now outs costs in
    omega (arith, is, taken)

pub returns-in-Split-clause-costs : goal.returns-in-Split-clause-costs
returns-in-Split-clause-costs c =
    let input = c.args.input.now in
    let g = groups_of c.args.machine.now in
    ok_map c.fork.result _ _
    (λ next less. λ outs costs has.
    let is = ap (λ i. op_cost input outs costs (op_in input.code.now.program.leaves.items i) (at c.args.here g)) c.in-Split.is in
    let first = ap (λ p. costs input.index (at p g)) c.goto.ensures in
    let second = ap (λ p. costs input.index (at p g)) c.goto-in-Split.ensures in
    let taken = less outs costs has in
    omega (arith, is, first, second, taken))
    c.fork.ensures.costs

pub returns-in-BeginLoop-clause-costs : goal.returns-in-BeginLoop-clause-costs
returns-in-BeginLoop-clause-costs c =
    let input = c.args.input.now in
    let a = at c.args.here (groups_of c.args.machine.now) in
    ok_map c.iterate.result _ _
    (λ next less. λ outs costs has.
    let is = ap (λ i. op_cost input outs costs (op_in input.code.now.program.leaves.items i) a) c.in-BeginLoop.is in
    let taken = less outs costs has in
    omega (arith, is, taken))
    c.iterate.ensures.costs

pub returns-then-here-clause-costs : goal.returns-then-here-clause-costs
returns-then-here-clause-costs c =
    let input = c.args.input.now in
    let a = at c.args.here (groups_of c.args.machine.now) in
    ok_map c.iterate-then-here.result _ _
    (λ next less. λ outs costs has.
    let cost = costs input.index in
    let is = ap (λ i. op_cost input outs costs (op_in input.code.now.program.leaves.items i) a) c.in-Repeat.is in
    let moved = ap (λ b. if b then cost (enter c.in-Repeat.body a) + cost (goto c.in-Repeat.next a) else 0) c.if-here.true in
    let taken = less outs costs has in
    omega (arith, is, moved, taken))
    c.iterate-then-here.ensures.costs

-- ---- the entries

pub returns-in-Leaf-clause-grows : goal.returns-in-Leaf-clause-grows
returns-in-Leaf-clause-grows c = λ outs costs has.
    let taken = returns-in-Leaf-clause-costs c outs costs has in
    omega (arith, taken, c.match_leaf.ensures.remaining)

pub returns-in-Characters-clause-grows : goal.returns-in-Characters-clause-grows
returns-in-Characters-clause-grows c = λ outs costs has.
    let taken = returns-in-Characters-clause-costs c outs costs has in
    omega (arith, taken, c.match_characters.ensures.remaining)

pub returns-in-Split-clause-grows : goal.returns-in-Split-clause-grows
returns-in-Split-clause-grows c =
    ok_map c.fork.result _ _
    (λ next both. λ outs costs has. let taken = both.0 outs costs has in omega (arith, taken, both.1))
    (ok_both c.fork.result _ _ (returns-in-Split-clause-costs c) c.fork.ensures.grows)

pub returns-in-BeginLoop-clause-grows : goal.returns-in-BeginLoop-clause-grows
returns-in-BeginLoop-clause-grows c =
    ok_map c.iterate.result _ _
    (λ next all. λ outs costs has. let taken = all.0 outs costs has in omega (arith, taken, all.1.0, all.1.1))
    (ok_both c.iterate.result _ _ (returns-in-BeginLoop-clause-costs c) (ok_both c.iterate.result _ _ c.iterate.ensures.remaining c.iterate.ensures.grows))

pub returns-then-here-clause-grows : goal.returns-then-here-clause-grows
returns-then-here-clause-grows c =
    let next = c.iterate-then-here in
    ok_map next.result _ _
    (λ to all. λ outs costs has. let taken = all.0 outs costs has in omega (arith, taken, all.1.0, all.1.1))
    (ok_both next.result _ _ (returns-then-here-clause-costs c) (ok_both next.result _ _ next.ensures.remaining next.ensures.grows))

pub returns-in_ok-unset-in-Unset-clause-grows : goal.returns-in_ok-unset-in-Unset-clause-grows
returns-in_ok-unset-in-Unset-clause-grows c = λ outs costs has.
    let input = c.args.input.now in
    let m = c.args.machine.now in
    let m' = c.unset.new.self in
    let cost = costs input.index in
    let start = c.in-Unset.start in
    let end = c.in-Unset.end in
    let captures = m.captures.items in
    let is = ap (λ i. op_cost input outs costs (op_in input.code.now.program.leaves.items i) (at c.args.here (groups_of m))) c.in-Unset.is in
    let groups : groups_of m' ≡ record { captures = unset_from 0 start end captures; begins = reverse m.stack.begins.items } =
    groups-same _ _ _ _ c.in_ok-unset-in-Unset.ensures.captures (ap reverse c.unset.ensures.begins) in
    let there = ap₂ (λ p g. cost (at p g)) c.goto-in-Unset.ensures groups in
    let points = ap (sum_by cost) c.in_ok-unset-in-Unset.ensures.kept.points in
    let count = min end (length captures) - start in
    let few = counted_by_blocks count in
    omega (arith, is, there, points, few, c.in_ok-unset-in-Unset.ensures.grows)

pub returns-in_err-unset-in-Unset-clause-too_much : goal.returns-in_err-unset-in-Unset-clause-too_much
returns-in_err-unset-in-Unset-clause-too_much c =
    let input = c.args.input.now in
    let m = c.args.machine.now in
    let count = min c.in-Unset.end (length m.captures.items) - c.in-Unset.start in
    let full : IfErr c.from_residual.result (λ fault. fault ≡ TooMuchMemory → input.room ≤ entry_count m + count) = search rules in
    err_map c.from_residual.result _ _
    (λ fault much. λ is. λ outs costs.
    let op = ap (λ i. op_cost input outs costs (op_in input.code.now.program.leaves.items i) (at c.args.here (groups_of m))) c.in-Unset.is in
    let few = counted_by_blocks count in
    let le = much is in
    omega (arith, op, few, le))
    full
