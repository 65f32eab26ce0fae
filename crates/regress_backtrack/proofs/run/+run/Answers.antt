use Rattle.std.proofs.Common.{rules, ◌≡◌, ◌+◌, ◌≤◌, ◌<◌, ℕ, IfErr, ◌++◌, ◌∷◌, [], All, IfSome, MatchOption, flat_map, length, reverse, refl, sym, ap, ◌∙◌, subst, arith}
use Rattle.std.proofs.lemmas.List.{length-take}
use Rattle.std.proofs.lemmas.List.Elements.{All-head, All-tail}
use Rattle.regress_leaves.specs.Subject.{subject}
use Rattle.regress_found.specs.Found.{state}
use Rattle.regress_found.specs.declared.fault.MemoryFault.TheVariants.{TooMuchMemory}
use Rattle.regress_program.specs.Cost.{Cost}
use Rattle.regress_program.specs.Program.{At, Out, matcher_of, outcomes_by}
use Rattle.regress_program.specs.Shape.{IsProgram}
use Rattle.regress_code.specs.Code.{code_routines}
use Rattle.regress_backtrack.specs.Costs.{cost_ahead, op_cost, points_cost}
use Rattle.regress_program.specs.Views.{op_in}
use Rattle.regress_backtrack.specs.Machine.{Groups, at, changes_of, groups_of, points, rewound}
use Rattle.regress_backtrack.specs.declared.machine.Machine.{Machine}
use Rattle.regress_backtrack.specs.declared.machine.Place.{Place}
use Rattle.regress_backtrack.specs.declared.run.Response.TheVariants as responses
use Rattle.regress_backtrack.specs.declared.step.Next.{Next}
use Rattle.regress_backtrack.specs.Memory.{IsStackWithin, entry_count}
use Rattle.regress_backtrack.specs.Next.{Inside, Leads}
use Rattle.regress_backtrack.specs.Run.{IsResponseOf}
use Rattle.regress_backtrack.proofs.CostLemmas.{costed}
use Rattle.regress_backtrack.proofs.LeafLemmas.{after-goes}
use Rattle.regress_backtrack.proofs.MachineLemmas.{left-lookaround, rewound-none}
use Rattle.regress_backtrack.proofs.StepLemmas.{Goes, err_map, not_look, ok_map}
use Rattle.regress_backtrack.proofs.RunLemmas.{can_step, advanced, look_fits, on_same, back_same, accept_same, on_all, back_all, begins-inside, begins-same, begins_cost, same_response, same_cost, same_entries, same_within, look_cost, look_goes, look_inside}
use Rattle.regress_backtrack.proofs.run.+run.Goals as goal

-- ---- one instruction

-- the instruction that is run is inside the routine
next_within : (pc next width : ℕ) → next ≤ pc → pc < width → next < width
next_within pc next width le lt = omega (arith, le, lt)

-- what follows an instruction with the same outcomes
leads_from : (out : Out) (m m' : Machine) (a b : At) (next : Next) → out a ≡ out b → Leads (flat_map out (a ∷ points m)) out m' next →
    Leads (flat_map out (b ∷ points m)) out m' next
leads_from out m m' a b next same = subst (λ states. Leads (states ++ flat_map out (points m)) out m' next) same

pub advance-look-requires : goal.advance-look-requires
advance-look-requires t c =
    let input = c.args.input.now in
    let i = c.instruction_at-instruction.result in
    let read = c.instruction_at-instruction.ensures in
    let p : Place = record c.args.place { pc = c.next_choice-pc.result } in
    let lt = next_within _ _ _ c.next_choice-pc.ensures.within c.requires.inside.pc in
    let can = can_step input c.requires.input p i lt read c.requires.program c.requires.inside.position in
    let fits = look_fits input i p c.in-Look.negate c.in-Look.routine c.in-Look.next c.in-Look.is can in (
      omega (arith, c.decreases, fits.0, length-take input.index (code_routines input.code.now)),
      (c.requires.program, (c.requires.input, (fits.0, record { pc = lt; position = c.requires.inside.position }))),
    )

pub advance-step-requires : goal.advance-step-requires
advance-step-requires t c =
    let input = c.args.input.now in
    let i = c.instruction_at-instruction.result in
    let read = c.instruction_at-instruction.ensures in
    let p : Place = record c.args.place { pc = c.next_choice-pc.result } in
    let lt = next_within _ _ _ c.next_choice-pc.ensures.within c.requires.inside.pc in
    record {
      can = can_step input c.requires.input p i lt read c.requires.program c.requires.inside.position;
      input = c.requires.input;
      no_look = not_look input.code.now.program.leaves.items i c.in_default.not-Look;
    }

pub advance-returns-in-Look-clause-leads : goal.advance-returns-in-Look-clause-leads
advance-returns-in-Look-clause-leads t c =
    let input = c.args.input.now in
    let u = subject input.rules input.text.now in
    let m = c.args.machine.now in
    let i = c.instruction_at-instruction.result in
    let read = c.instruction_at-instruction.ensures in
    let p : Place = record c.args.place { pc = c.next_choice-pc.result } in
    let lt = next_within _ _ _ c.next_choice-pc.ensures.within c.requires.inside.pc in
    ok_map c.look.result _ _
    (λ next leads. λ outs solution.
    leads_from (outs input.index) m c.look.new.machine _ _ next (c.next_choice-pc.ensures.same outs (groups_of m) solution)
    (advanced input c.requires.input p i lt read m c.look.new.machine next u.setting u.bytes outs u.direction solution
    c.requires.input.direction c.requires.inside.position
    (subst (λ o. Goes (outs input.index) m c.look.new.machine
    (outcomes_by u.setting u.bytes u.direction (matcher_of u.setting u.bytes (code_routines input.code.now) outs)
    (outs input.index) o (at p (groups_of m))) next) (sym (ap (op_in input.code.now.program.leaves.items) c.in-Look.is)) (leads outs (outs input.index) solution))))
    c.look.ensures.leads

pub advance-returns-in-Look-clause-inside : goal.advance-returns-in-Look-clause-inside
advance-returns-in-Look-clause-inside t c =
    let input = c.args.input.now in
    let i = c.instruction_at-instruction.result in
    let read = c.instruction_at-instruction.ensures in
    let p : Place = record c.args.place { pc = c.next_choice-pc.result } in
    let lt = next_within _ _ _ c.next_choice-pc.ensures.within c.requires.inside.pc in
    let can = can_step input c.requires.input p i lt read c.requires.program c.requires.inside.position in
    let fits = look_fits input i p c.in-Look.negate c.in-Look.routine c.in-Look.next c.in-Look.is can in
    ok_map c.look.result _ _ (λ next inside. inside fits.1) c.look.ensures.inside

pub advance-returns-in_default : goal.advance-returns-in_default
advance-returns-in_default t c =
    let input = c.args.input.now in
    let u = subject input.rules input.text.now in
    let m = c.args.machine.now in
    let i = c.instruction_at-instruction.result in
    let read = c.instruction_at-instruction.ensures in
    let p : Place = record c.args.place { pc = c.next_choice-pc.result } in
    let lt = next_within _ _ _ c.next_choice-pc.ensures.within c.requires.inside.pc in
    record {
      leads = ok_map c.step.result _ _
          (λ next leads. λ outs solution.
          leads_from (outs input.index) m c.step.new.machine _ _ next (c.next_choice-pc.ensures.same outs (groups_of m) solution)
          (advanced input c.requires.input p i lt read m c.step.new.machine next u.setting u.bytes outs u.direction solution
          c.requires.input.direction c.requires.inside.position
          (leads outs solution)))
          c.step.ensures.leads;
      inside = c.step.ensures.inside;
      rewound = c.step.ensures.rewound;
      remaining = c.step.ensures.remaining;
      costs = ok_map c.step.result _ _
          (λ next taken. λ outs costs has.
          let here = costed input c.requires.input outs costs has (groups_of m) p i lt read c.requires.inside.position in
          let most = c.next_choice-pc.ensures.costs outs costs (groups_of m) has in
          let all = taken outs costs has in
          omega (arith, here, most, all))
          c.step.ensures.costs;
      spent = ok_map c.step.result _ _ (λ next goes. λ out. absurd (goes out)) c.step.ensures.goes;
      within = c.step.ensures.within;
      grows = ok_map c.step.result _ _
          (λ next grown. λ outs costs has.
          let here = costed input c.requires.input outs costs has (groups_of m) p i lt read c.requires.inside.position in
          let most = c.next_choice-pc.ensures.costs outs costs (groups_of m) has in
          let all = grown outs costs has in
          omega (arith, here, most, all))
          c.step.ensures.grows;
      too_much = err_map c.step.result _ _
          (λ fault full. λ is outs costs has.
          let here = costed input c.requires.input outs costs has (groups_of m) p i lt read c.requires.inside.position in
          let most = c.next_choice-pc.ensures.costs outs costs (groups_of m) has in
          let all = full is outs costs in
          omega (arith, here, most, all))
          c.step.ensures.too_much;
    }

-- ---- lookarounds

pub look-run-requires : goal.look-run-requires
look-run-requires t c =
    let inside = c.input_for-inside.ensures in (
      omega (arith, c.decreases, inside.index),
      (
        subst (λ code. IsProgram (code_routines code)) (sym inside.code) c.requires.program,
        (
          inside.input,
          omega (
            arith,
            ap length inside.text,
            c.requires.inside.position,
          ),
        ),
      ),
    )

pub look-routine_fails-requires : goal.look-routine_fails-requires
look-routine_fails-requires t c =
    omega (arith, c.requires.routine, length-take c.args.input.now.index (code_routines c.args.input.now.code.now))

pub look-returns-then-routine_fails-clause-leads : goal.look-returns-then-routine_fails-clause-leads
look-returns-then-routine_fails-clause-leads t c = λ outs out solution.
    let input = c.args.input.now in
    let u = subject input.rules input.text.now in
    let m = c.args.machine.now in
    let responds : IsResponseOf (matcher_of u.setting u.bytes (code_routines input.code.now) outs c.args.looking.routine
    (state m.captures.items c.args.here.position)) m responses.NoMatch =
    c.routine_fails.ensures c.if-routine_fails.true outs solution m.captures.items in
    look_goes out m m refl refl c.args.here c.args.looking.next
    c.args.looking.negate (matcher_of u.setting u.bytes (code_routines input.code.now) outs c.args.looking.routine) m responses.NoMatch
    c.on_if.result responds refl (λ none. refl) c.on_if.ensures

pub look-returns-then-routine_fails-clause-inside : goal.look-returns-then-routine_fails-clause-inside
look-returns-then-routine_fails-clause-inside t c = λ lt.
    let m = c.args.machine.now in
    look_inside c.args.input.now m m responses.NoMatch c.args.looking.negate _ c.on_if.result refl c.on_if.ensures lt c.requires.inside.position

pub look-sole_leaf_of-requires : goal.look-sole_leaf_of-requires
look-sole_leaf_of-requires t c =
    let inside = c.input_for-inside.ensures in
    record { program = subst (λ code. IsProgram (code_routines code)) (sym inside.code) c.requires.program; input = inside.input }

pub look-leaf_response-response-requires : goal.look-leaf_response-response-requires
look-leaf_response-response-requires t c =
    let inside = c.input_for-inside.ensures in
    record {
      program = subst (λ code. IsProgram (code_routines code)) (sym inside.code) c.requires.program;
      input = inside.input;
      body = c.in-Some.ensures;
      position = omega (arith, ap length inside.text, c.requires.inside.position);
    }

pub look-returns-in-Some-clause-leads : goal.look-returns-in-Some-clause-leads
look-returns-in-Some-clause-leads t c = λ outs out solution.
    let input = c.args.input.now in
    let u = subject input.rules input.text.now in
    let m = c.args.machine.now in
    let inside = c.input_for-inside.ensures in
    let responds : IsResponseOf (matcher_of u.setting u.bytes (code_routines input.code.now) outs c.args.looking.routine
    (state m.captures.items c.args.here.position)) m c.leaf_response-response.result =
    same_response m c.leaf_response-response.result outs c.args.here.position _ _ _ _ _ _ _ _ _ _ (c.leaf_response-response.ensures.responds outs) inside.setting
    inside.text (ap code_routines inside.code) inside.index refl solution in
    look_goes out m m refl refl c.args.here c.args.looking.next
    c.args.looking.negate (matcher_of u.setting u.bytes (code_routines input.code.now) outs c.args.looking.routine) m c.leaf_response-response.result
    c.next_after.result responds refl (λ none. refl) c.next_after.ensures

pub look-returns-in-Some-clause-inside : goal.look-returns-in-Some-clause-inside
look-returns-in-Some-clause-inside t c = λ lt.
    let m = c.args.machine.now in
    look_inside c.args.input.now m m c.leaf_response-response.result c.args.looking.negate _ c.next_after.result refl c.next_after.ensures lt
    c.requires.inside.position

pub look-returns-in-Some-clause-spent : goal.look-returns-in-Some-clause-spent
look-returns-in-Some-clause-spent t c = λ out.
    absurd (after-goes c.leaf_response-response.result c.args.looking.negate _ c.next_after.result c.leaf_response-response.ensures.goes
    c.next_after.ensures out)

pub look-returns-clause-leads : goal.look-returns-clause-leads
look-returns-clause-leads t c = λ outs out solution.
    let input = c.args.input.now in
    let u = subject input.rules input.text.now in
    let m = c.args.machine.now in
    let inner = c.run.new.machine in
    let m' = c.leave.new.self in
    let inside = c.input_for-inside.ensures in
    let kept = left-lookaround m inner m' (c.in_ok-response.ensures.undo ∙ c.enter-outer.ensures.captures)
    (c.in_ok-leave.ensures.entries ∙ ap (λ s. s.entries.items ++ changes_of inner.stack.entries.items) c.enter-outer.ensures.stack)
    (c.in_ok-leave.ensures.begins ∙ ap (λ s. s.begins.items) c.enter-outer.ensures.stack) c.in_ok-leave.ensures.captures in
    let responds : IsResponseOf (matcher_of u.setting u.bytes (code_routines input.code.now) outs c.args.looking.routine
    (state m.captures.items c.args.here.position)) inner
    c.in_ok-response.response =
    same_response inner c.in_ok-response.response outs c.args.here.position _ _ _ _ _ _ _ _ _ _ (c.in_ok-response.ensures.responds outs) inside.setting
    inside.text
    (ap code_routines inside.code) inside.index c.enter-outer.ensures.captures solution in
    look_goes out m m' kept.points (ap reverse (c.in_ok-leave.ensures.begins ∙ ap (λ s. s.begins.items) c.enter-outer.ensures.stack)) c.args.here
    c.args.looking.next
    c.args.looking.negate (matcher_of u.setting u.bytes (code_routines input.code.now) outs c.args.looking.routine) inner c.in_ok-response.response
    c.next_after-2.result responds c.in_ok-leave.ensures.captures (λ none. c.in_ok-response.ensures.none none ∙ c.enter-outer.ensures.captures)
    c.next_after-2.ensures

pub look-returns-clause-inside : goal.look-returns-clause-inside
look-returns-clause-inside t c = λ lt.
    let m = c.args.machine.now in
    let inner = c.run.new.machine in
    let m' = c.leave.new.self in
    let kept = left-lookaround m inner m' (c.in_ok-response.ensures.undo ∙ c.enter-outer.ensures.captures)
    (c.in_ok-leave.ensures.entries ∙ ap (λ s. s.entries.items ++ changes_of inner.stack.entries.items) c.enter-outer.ensures.stack)
    (c.in_ok-leave.ensures.begins ∙ ap (λ s. s.begins.items) c.enter-outer.ensures.stack) c.in_ok-leave.ensures.captures in
    look_inside c.args.input.now m m' c.in_ok-response.response c.args.looking.negate _ c.next_after-2.result kept.points c.next_after-2.ensures lt
    c.requires.inside.position

pub look-returns-clause-rewound : goal.look-returns-clause-rewound
look-returns-clause-rewound t c =
    let m = c.args.machine.now in
    let inner = c.run.new.machine in
    let m' = c.leave.new.self in
    (left-lookaround m inner m' (c.in_ok-response.ensures.undo ∙ c.enter-outer.ensures.captures)
    (c.in_ok-leave.ensures.entries ∙ ap (λ s. s.entries.items ++ changes_of inner.stack.entries.items) c.enter-outer.ensures.stack)
    (c.in_ok-leave.ensures.begins ∙ ap (λ s. s.begins.items) c.enter-outer.ensures.stack) c.in_ok-leave.ensures.captures).rewound

-- ---- runs

captures-same : (g h : Groups) → g ≡ h → g.captures ≡ h.captures
captures-same g h is = ap (λ (x : Groups). x.captures) is

pub run-loop-remaining-init : goal.run-loop-remaining-init
run-loop-remaining-init t c =
    record {
      remaining = omega arith;
      undo = captures-same _ _ (rewound-none _ c.clear.ensures.entries);
      inside = begins-inside c.args.input.now c.requires.input _ c.args.start c.requires.program c.clear.ensures.entries c.requires.start;
      same = λ outs solution.
          begins-same c.args.input.now c.requires.input _ c.args.machine.now.captures.items c.args.start
          (subject c.args.input.now.rules c.args.input.now.text.now).setting c.args.input.now.text.now outs c.clear.ensures.entries c.clear.ensures.begins refl;
      costs = λ outs costs has.
          begins_cost c.args.input.now c.requires.input _ c.args.machine.now.captures.items c.args.start
          (subject c.args.input.now.rules c.args.input.now.text.now).setting c.args.input.now.text.now costs c.args.remaining.now c.clear.ensures.entries
          c.clear.ensures.begins refl;
      within = λ are. record { stack = c.clear.ensures.within c.args.input.now.room are.stack; idle = are.idle };
      grows = λ outs costs has.
          let begins = begins_cost c.args.input.now c.requires.input
          (record { captures = c.args.machine.now.captures; stack = c.clear.new.self; idle = c.args.machine.now.idle }) c.args.machine.now.captures.items c.args.start
          (subject c.args.input.now.rules c.args.input.now.text.now).setting c.args.input.now.text.now costs 0 c.clear.ensures.entries
          c.clear.ensures.begins refl in
          omega (arith, begins, ap length c.clear.ensures.entries);
    }

pub run-advance-requires : goal.run-advance-requires
run-advance-requires t c = (
  omega (arith, c.decreases),
  (
    c.requires.program,
    (
      c.requires.input,
      All-head (Inside c.args.input.now) (at c.loop-remaining.here (groups_of c.loop-remaining.machine)) (points c.loop-remaining.machine) c.loop-remaining.invariant.inside,
    ),
  ),
)

pub run-loop-remaining-preserved-in-On : goal.run-loop-remaining-preserved-in-On
run-loop-remaining-preserved-in-On t c =
    let so_far = c.loop-remaining.invariant in
    let input = c.args.input.now in
    let m = c.loop-remaining.machine in
    let m' = c.advance.new.machine in
    let a = at c.loop-remaining.here (groups_of m) in
    let n = c.in_ok-to.field-0 in
    record {
      remaining = omega (arith, c.in_ok-to.ensures.remaining, so_far.remaining);
      undo = captures-same _ _ c.in_ok-to.ensures.rewound ∙ so_far.undo;
      inside = on_all input m' n c.in-On.to c.in-On.is (c.in_ok-to.ensures.inside (All-tail (Inside input) a (points m) so_far.inside));
      same = λ outs solution.
          so_far.same outs solution
          ∙ on_same (flat_map (outs input.index) (a ∷ points m)) (outs input.index) m' n c.in-On.to c.in-On.is (c.in_ok-to.ensures.leads outs solution);
      costs = λ outs costs has.
          let before = so_far.costs outs costs has in
          let taken = c.in_ok-to.ensures.costs outs costs has in
          let on = ap (cost_ahead (costs input.index) m') c.in-On.is in
          omega (arith, before, taken, on);
      within = λ are. c.advance.ensures.within (so_far.within are);
      grows = λ outs costs has.
          let before = so_far.grows outs costs has in
          let grown = c.in_ok-to.ensures.grows outs costs has in
          let on = ap (cost_ahead (costs input.index) m') c.in-On.is in
          omega (arith, before, grown, on);
    }

pub run-loop-remaining-smaller-in-On : goal.run-loop-remaining-smaller-in-On
run-loop-remaining-smaller-in-On t c = omega (arith, c.in_ok-to.ensures.remaining, c.loop-remaining-test.true)

pub run-loop-remaining-smaller : goal.run-loop-remaining-smaller
run-loop-remaining-smaller t c = omega (arith, c.in_ok-to.ensures.remaining, c.loop-remaining-test.true)

pub run-loop-remaining-preserved : goal.run-loop-remaining-preserved
run-loop-remaining-preserved t c =
    let so_far = c.loop-remaining.invariant in
    let input = c.args.input.now in
    let m = c.loop-remaining.machine in
    let m' = c.advance.new.machine in
    let a = at c.loop-remaining.here (groups_of m) in
    let n = c.in_ok-to.field-0 in
    let to = c.in-Some.to in
    let m'' = c.resume.new.machine in
    record {
      remaining = omega (arith, c.in_ok-to.ensures.remaining, so_far.remaining);
      undo = captures-same _ _ (c.in_ok-to-in-Back.ensures.rewound ∙ c.in_ok-to.ensures.rewound) ∙ so_far.undo;
      inside = subst (λ o. IfSome o (λ p. All (Inside input) (points m') → All (Inside input) (at p (groups_of m'') ∷ points m''))) c.in-Some.is
          c.in_ok-to-in-Back.ensures.inside
          (back_all input m' n c.in-Back.is (c.in_ok-to.ensures.inside (All-tail (Inside input) a (points m) so_far.inside)));
      same = λ outs solution.
          so_far.same outs solution
          ∙ back_same (flat_map (outs input.index) (a ∷ points m)) (outs input.index) m' n c.in-Back.is (c.in_ok-to.ensures.leads outs solution)
          ∙ subst (λ o. MatchOption o (flat_map (outs input.index) (points m') ≡ []) (λ p. flat_map (outs input.index) (points m')
          ≡ flat_map (outs input.index) (at p (groups_of m'') ∷ points m''))) c.in-Some.is (c.in_ok-to-in-Back.ensures.leads outs solution);
      costs = λ outs costs has.
          let cost = costs input.index in
          let before = so_far.costs outs costs has in
          let taken = c.in_ok-to.ensures.costs outs costs has in
          let back = ap (cost_ahead cost m') c.in-Back.is in
          let less = subst (λ o. IfSome o (λ p. (cost : Cost) → cost (at p (groups_of m'')) + points_cost cost m'' ≤ points_cost cost m')) c.in-Some.is
          c.in_ok-to-in-Back.ensures.costs cost in
          omega (arith, before, taken, back, less);
      within = λ are. c.resume.ensures.within input.room (c.advance.ensures.within (so_far.within are));
      grows = λ outs costs has.
          let cost = costs input.index in
          let before = so_far.grows outs costs has in
          let grown = c.in_ok-to.ensures.grows outs costs has in
          let back = ap (cost_ahead cost m') c.in-Back.is in
          let less = subst (λ o. IfSome o (λ p. (cost : Cost) → cost (at p (groups_of m'')) + points_cost cost m'' ≤ points_cost cost m')) c.in-Some.is
          c.in_ok-to-in-Back.ensures.costs cost in
          omega (arith, before, grown, back, less, c.resume.ensures.shrinks);
    }

pub run-returns-in-None-clause-responds : goal.run-returns-in-None-clause-responds
run-returns-in-None-clause-responds t c = λ outs solution.
    let input = c.args.input.now in
    let m = c.loop-remaining.machine in
    let m' = c.advance.new.machine in
    let a = at c.loop-remaining.here (groups_of m) in
    c.loop-remaining.invariant.same outs solution
    ∙ back_same (flat_map (outs input.index) (a ∷ points m)) (outs input.index) m' c.in_ok-to.field-0 c.in-Back.is (c.in_ok-to.ensures.leads outs solution)
    ∙ subst (λ o. MatchOption o (flat_map (outs input.index) (points m') ≡ []) (λ p. flat_map (outs input.index) (points m')
    ≡ flat_map (outs input.index) (at p (groups_of c.resume.new.machine) ∷ points c.resume.new.machine))) c.in-None.is
    (c.in_ok-to-in-Back.ensures.leads outs solution)

pub run-returns-in-None-clause-undo : goal.run-returns-in-None-clause-undo
run-returns-in-None-clause-undo t c =
    captures-same _ _ (c.in_ok-to-in-Back.ensures.rewound ∙ c.in_ok-to.ensures.rewound) ∙ c.loop-remaining.invariant.undo

pub run-returns-in-None-clause-none : goal.run-returns-in-None-clause-none
run-returns-in-None-clause-none t c = λ is.
    let all : groups_of c.resume.new.machine ≡ rewound c.advance.new.machine = rw c.in-None.is at c.in_ok-to-in-Back.ensures.all in
    captures-same _ _ (all ∙ c.in_ok-to.ensures.rewound) ∙ c.loop-remaining.invariant.undo

pub run-returns-in-None-clause-remaining : goal.run-returns-in-None-clause-remaining
run-returns-in-None-clause-remaining t c = omega (arith, c.in_ok-to.ensures.remaining, c.loop-remaining.invariant.remaining)

pub run-returns-in-Accept-clause-responds : goal.run-returns-in-Accept-clause-responds
run-returns-in-Accept-clause-responds t c = λ outs solution.
    let input = c.args.input.now in
    let m = c.loop-remaining.machine in
    let a = at c.loop-remaining.here (groups_of m) in
    let found = accept_same (flat_map (outs input.index) (a ∷ points m)) (outs input.index) c.advance.new.machine c.in_ok-to.field-0 c.in-Accept.end
    c.in-Accept.is
    (c.in_ok-to.ensures.leads outs solution) in
    (found.0, c.loop-remaining.invariant.same outs solution ∙ found.1)

pub run-returns-in-Accept-clause-undo : goal.run-returns-in-Accept-clause-undo
run-returns-in-Accept-clause-undo t c = captures-same _ _ c.in_ok-to.ensures.rewound ∙ c.loop-remaining.invariant.undo

pub run-returns-in-Accept-clause-remaining : goal.run-returns-in-Accept-clause-remaining
run-returns-in-Accept-clause-remaining t c = omega (arith, c.in_ok-to.ensures.remaining, c.loop-remaining.invariant.remaining)

pub run-returns-in-OutOfSteps-clause-undo : goal.run-returns-in-OutOfSteps-clause-undo
run-returns-in-OutOfSteps-clause-undo t c = captures-same _ _ c.in_ok-to.ensures.rewound ∙ c.loop-remaining.invariant.undo

pub run-returns-clause-undo : goal.run-returns-clause-undo
run-returns-clause-undo t c = c.loop-remaining.invariant.undo

-- ---- the cost

pub advance-returns-in-Look-clause-costs : goal.advance-returns-in-Look-clause-costs
advance-returns-in-Look-clause-costs t c =
    let input = c.args.input.now in
    let m = c.args.machine.now in
    let p : Place = record c.args.place { pc = c.next_choice-pc.result } in
    let i = c.instruction_at-instruction.result in
    let read = c.instruction_at-instruction.ensures in
    let lt = next_within _ _ _ c.next_choice-pc.ensures.within c.requires.inside.pc in
    ok_map c.look.result _ _
    (λ next taken. λ outs costs has.
    let here = costed input c.requires.input outs costs has (groups_of m) p i lt read c.requires.inside.position in
    let most = c.next_choice-pc.ensures.costs outs costs (groups_of m) has in
    let is = ap (λ x. op_cost input outs costs (op_in input.code.now.program.leaves.items x) (at p (groups_of m))) c.in-Look.is in
    let all = taken outs costs has in
    omega (arith, here, most, is, all))
    c.look.ensures.costs

pub look-returns-then-routine_fails-clause-costs : goal.look-returns-then-routine_fails-clause-costs
look-returns-then-routine_fails-clause-costs t c = λ outs costs has.
    let input = c.args.input.now in
    let u = subject input.rules input.text.now in
    let m = c.args.machine.now in
    let body = matcher_of u.setting u.bytes (code_routines input.code.now) outs c.args.looking.routine in
    let responds : IsResponseOf (body (state m.captures.items c.args.here.position)) m responses.NoMatch =
    c.routine_fails.ensures c.if-routine_fails.true outs has.outcomes m.captures.items in
    let ahead = look_cost (outs input.index) m m refl refl c.args.here c.args.looking.next (costs input.index) c.args.looking.negate body m responses.NoMatch
    c.on_if.result responds refl (λ none. refl) c.on_if.ensures in
    omega (arith, ahead)

pub look-returns-in-Some-clause-costs : goal.look-returns-in-Some-clause-costs
look-returns-in-Some-clause-costs t c = λ outs costs has.
    let input = c.args.input.now in
    let u = subject input.rules input.text.now in
    let m = c.args.machine.now in
    let inside = c.input_for-inside.ensures in
    let body = matcher_of u.setting u.bytes (code_routines input.code.now) outs c.args.looking.routine in
    let responds : IsResponseOf (body (state m.captures.items c.args.here.position)) m c.leaf_response-response.result =
    same_response m c.leaf_response-response.result outs c.args.here.position _ _ _ _ _ _ _ _ _ _ (c.leaf_response-response.ensures.responds outs) inside.setting
    inside.text (ap code_routines inside.code) inside.index refl has.outcomes in
    let ahead = look_cost (outs input.index) m m refl refl c.args.here c.args.looking.next (costs input.index) c.args.looking.negate body m
    c.leaf_response-response.result c.next_after.result responds refl (λ none. refl) c.next_after.ensures in
    let taken = same_cost c.args.remaining.now c.leaf_response-response.new.remaining outs costs c.args.here.position _ _ _ _ _ _ _ _ _ _
    (c.leaf_response-response.ensures.costs outs costs) inside.setting inside.text (ap code_routines inside.code) inside.index refl has in
    omega (arith, ahead, taken)

pub look-returns-in-Some-clause-grows : goal.look-returns-in-Some-clause-grows
look-returns-in-Some-clause-grows t c = λ outs costs has.
    let taken = look-returns-in-Some-clause-costs t c outs costs has in
    omega (arith, taken, c.leaf_response-response.ensures.remaining)

pub look-returns-clause-costs : goal.look-returns-clause-costs
look-returns-clause-costs t c = λ outs costs has.
    let input = c.args.input.now in
    let u = subject input.rules input.text.now in
    let m = c.args.machine.now in
    let inner = c.run.new.machine in
    let m' = c.leave.new.self in
    let inside = c.input_for-inside.ensures in
    let body = matcher_of u.setting u.bytes (code_routines input.code.now) outs c.args.looking.routine in
    let kept = left-lookaround m inner m' (c.in_ok-response.ensures.undo ∙ c.enter-outer.ensures.captures)
    (c.in_ok-leave.ensures.entries ∙ ap (λ s. s.entries.items ++ changes_of inner.stack.entries.items) c.enter-outer.ensures.stack)
    (c.in_ok-leave.ensures.begins ∙ ap (λ s. s.begins.items) c.enter-outer.ensures.stack) c.in_ok-leave.ensures.captures in
    let responds : IsResponseOf (body (state m.captures.items c.args.here.position)) inner c.in_ok-response.response =
    same_response inner c.in_ok-response.response outs c.args.here.position _ _ _ _ _ _ _ _ _ _ (c.in_ok-response.ensures.responds outs) inside.setting
    inside.text
    (ap code_routines inside.code) inside.index c.enter-outer.ensures.captures has.outcomes in
    let ahead = look_cost (outs input.index) m m' kept.points (ap reverse (c.in_ok-leave.ensures.begins ∙ ap (λ s. s.begins.items) c.enter-outer.ensures.stack))
    c.args.here c.args.looking.next (costs input.index) c.args.looking.negate body inner c.in_ok-response.response
    c.next_after-2.result responds c.in_ok-leave.ensures.captures (λ none. c.in_ok-response.ensures.none none ∙ c.enter-outer.ensures.captures)
    c.next_after-2.ensures in
    let taken = same_cost c.args.remaining.now c.run.new.remaining outs costs c.args.here.position _ _ _ _ _ _ _ _ _ _ (c.in_ok-response.ensures.costs outs costs)
    inside.setting inside.text (ap code_routines inside.code) inside.index c.enter-outer.ensures.captures has in
    omega (arith, ahead, taken)

-- ---- the cost of a run

pub run-returns-in-None-clause-costs : goal.run-returns-in-None-clause-costs
run-returns-in-None-clause-costs t c = λ outs costs has.
    let before = c.loop-remaining.invariant.costs outs costs has in
    let taken = c.in_ok-to.ensures.costs outs costs has in
    omega (arith, before, taken)

pub run-returns-in-Accept-clause-costs : goal.run-returns-in-Accept-clause-costs
run-returns-in-Accept-clause-costs t c = λ outs costs has.
    let before = c.loop-remaining.invariant.costs outs costs has in
    let taken = c.in_ok-to.ensures.costs outs costs has in
    omega (arith, before, taken)

pub run-returns-in-OutOfSteps-clause-costs : goal.run-returns-in-OutOfSteps-clause-costs
run-returns-in-OutOfSteps-clause-costs t c = λ outs costs has.
    let before = c.loop-remaining.invariant.costs outs costs has in
    let taken = c.in_ok-to.ensures.costs outs costs has in
    omega (arith, before, taken)

pub run-returns-clause-costs : goal.run-returns-clause-costs
run-returns-clause-costs t c = λ outs costs has.
    let before = c.loop-remaining.invariant.costs outs costs has in
    omega (arith, before)

-- ---- the entries

pub advance-returns-in-Look-clause-grows : goal.advance-returns-in-Look-clause-grows
advance-returns-in-Look-clause-grows t c =
    let input = c.args.input.now in
    let m = c.args.machine.now in
    let p : Place = record c.args.place { pc = c.next_choice-pc.result } in
    let i = c.instruction_at-instruction.result in
    let read = c.instruction_at-instruction.ensures in
    let lt = next_within _ _ _ c.next_choice-pc.ensures.within c.requires.inside.pc in
    ok_map c.look.result _ _
    (λ next grown. λ outs costs has.
    let here = costed input c.requires.input outs costs has (groups_of m) p i lt read c.requires.inside.position in
    let most = c.next_choice-pc.ensures.costs outs costs (groups_of m) has in
    let is = ap (λ x. op_cost input outs costs (op_in input.code.now.program.leaves.items x) (at p (groups_of m))) c.in-Look.is in
    let all = grown outs costs has in
    omega (arith, here, most, is, all))
    c.look.ensures.grows

pub advance-returns-in-Look-clause-too_much : goal.advance-returns-in-Look-clause-too_much
advance-returns-in-Look-clause-too_much t c =
    let input = c.args.input.now in
    let m = c.args.machine.now in
    let p : Place = record c.args.place { pc = c.next_choice-pc.result } in
    let i = c.instruction_at-instruction.result in
    let read = c.instruction_at-instruction.ensures in
    let lt = next_within _ _ _ c.next_choice-pc.ensures.within c.requires.inside.pc in
    err_map c.look.result _ _
    (λ fault full. λ much outs costs has.
    let here = costed input c.requires.input outs costs has (groups_of m) p i lt read c.requires.inside.position in
    let most = c.next_choice-pc.ensures.costs outs costs (groups_of m) has in
    let is = ap (λ x. op_cost input outs costs (op_in input.code.now.program.leaves.items x) (at p (groups_of m))) c.in-Look.is in
    let all = full much outs costs has in
    omega (arith, here, most, is, all))
    c.look.ensures.too_much

pub look-returns-then-routine_fails-clause-grows : goal.look-returns-then-routine_fails-clause-grows
look-returns-then-routine_fails-clause-grows t c = λ outs costs has.
    let taken = look-returns-then-routine_fails-clause-costs t c outs costs has in
    omega (arith, taken)

pub look-returns-in_err-response-clause-within : goal.look-returns-in_err-response-clause-within
look-returns-in_err-response-clause-within t c = λ are.
    same_within c.args.input.now.room c.input_for-inside.result.room c.enter-outer.new.self c.run.new.machine c.input_for-inside.ensures.room
    c.run.ensures.within (c.enter-outer.ensures.within c.args.input.now.room are)

pub look-returns-in_err-leave-clause-within : goal.look-returns-in_err-leave-clause-within
look-returns-in_err-leave-clause-within t c = λ are.
    let room = c.args.input.now.room in
    c.leave.ensures.within
    (same_within room c.input_for-inside.result.room c.enter-outer.new.self c.run.new.machine c.input_for-inside.ensures.room
    c.run.ensures.within (c.enter-outer.ensures.within room are))
    (subst (IsStackWithin room) (sym c.enter-outer.ensures.stack) are.stack)

pub look-returns-clause-within : goal.look-returns-clause-within
look-returns-clause-within t c = λ are.
    let room = c.args.input.now.room in
    c.leave.ensures.within
    (same_within room c.input_for-inside.result.room c.enter-outer.new.self c.run.new.machine c.input_for-inside.ensures.room
    c.run.ensures.within (c.enter-outer.ensures.within room are))
    (subst (IsStackWithin room) (sym c.enter-outer.ensures.stack) are.stack)

pub look-returns-clause-grows : goal.look-returns-clause-grows
look-returns-clause-grows t c = λ outs costs has.
    let input = c.args.input.now in
    let u = subject input.rules input.text.now in
    let m = c.args.machine.now in
    let inner = c.run.new.machine in
    let m' = c.leave.new.self in
    let inside = c.input_for-inside.ensures in
    let body = matcher_of u.setting u.bytes (code_routines input.code.now) outs c.args.looking.routine in
    let kept = left-lookaround m inner m' (c.in_ok-response.ensures.undo ∙ c.enter-outer.ensures.captures)
    (c.in_ok-leave.ensures.entries ∙ ap (λ s. s.entries.items ++ changes_of inner.stack.entries.items) c.enter-outer.ensures.stack)
    (c.in_ok-leave.ensures.begins ∙ ap (λ s. s.begins.items) c.enter-outer.ensures.stack) c.in_ok-leave.ensures.captures in
    let responds : IsResponseOf (body (state m.captures.items c.args.here.position)) inner c.in_ok-response.response =
    same_response inner c.in_ok-response.response outs c.args.here.position _ _ _ _ _ _ _ _ _ _ (c.in_ok-response.ensures.responds outs) inside.setting
    inside.text
    (ap code_routines inside.code) inside.index c.enter-outer.ensures.captures has.outcomes in
    let ahead = look_cost (outs input.index) m m' kept.points (ap reverse (c.in_ok-leave.ensures.begins ∙ ap (λ s. s.begins.items) c.enter-outer.ensures.stack))
    c.args.here c.args.looking.next (costs input.index) c.args.looking.negate body inner c.in_ok-response.response
    c.next_after-2.result responds c.in_ok-leave.ensures.captures (λ none. c.in_ok-response.ensures.none none ∙ c.enter-outer.ensures.captures)
    c.next_after-2.ensures in
    let grown = same_entries (entry_count inner) outs costs c.args.here.position _ _ _ _ _ _ _ _ _ _ (c.in_ok-response.ensures.grows outs costs)
    inside.setting inside.text (ap code_routines inside.code) inside.index c.enter-outer.ensures.captures has in
    let outer = ap (λ s. length s.entries.items) c.enter-outer.ensures.stack in
    omega (arith, ahead, grown, c.in_ok-leave.ensures.grows, outer)

pub look-returns-in_err-response-clause-too_much : goal.look-returns-in_err-response-clause-too_much
look-returns-in_err-response-clause-too_much t c =
    let inside = c.input_for-inside.result in
    let same = c.input_for-inside.ensures in
    let the_fault : IfErr c.from_residual.result (λ fault. fault ≡ c.in_err-response.field-0.0) = search rules in
    err_map c.from_residual.result _ _
    (λ fault is. λ much outs costs has.
    let le = same_entries inside.room outs costs c.args.here.position _ _ _ _ _ _ _ _ _ _ (c.in_err-response.ensures.too_much (sym is ∙ much) outs costs)
    same.setting same.text (ap code_routines same.code) same.index c.enter-outer.ensures.captures has in
    omega (arith, le, same.room))
    the_fault

pub look-returns-in_err-leave-clause-too_much : goal.look-returns-in_err-leave-clause-too_much
look-returns-in_err-leave-clause-too_much t c =
    let inner = c.run.new.machine in
    let same = c.input_for-inside.ensures in
    let full : IfErr c.from_residual-in_err-leave.result (λ fault. fault ≡ TooMuchMemory →
    c.args.input.now.room ≤ length c.enter-outer.result.entries.items + entry_count inner) = search rules in
    err_map c.from_residual-in_err-leave.result _ _
    (λ fault much. λ is outs costs has.
    let le = much is in
    let grown = same_entries (entry_count inner) outs costs c.args.here.position _ _ _ _ _ _ _ _ _ _ (c.in_ok-response.ensures.grows outs costs)
    same.setting same.text (ap code_routines same.code) same.index c.enter-outer.ensures.captures has in
    let outer = ap (λ s. length s.entries.items) c.enter-outer.ensures.stack in
    omega (arith, le, grown, outer))
    full

pub run-returns-in_err-to-clause-too_much : goal.run-returns-in_err-to-clause-too_much
run-returns-in_err-to-clause-too_much t c =
    let the_fault : IfErr c.from_residual.result (λ fault. fault ≡ c.in_err-to.field-0.0) = search rules in
    err_map c.from_residual.result _ _
    (λ fault is. λ much outs costs has.
    let le = c.in_err-to.ensures.too_much (sym is ∙ much) outs costs has in
    let before = c.loop-remaining.invariant.grows outs costs has in
    omega (arith, le, before))
    the_fault

pub run-returns-in_err-to-in-Back-clause-within : goal.run-returns-in_err-to-in-Back-clause-within
run-returns-in_err-to-in-Back-clause-within t c = λ are.
    c.resume.ensures.within c.args.input.now.room (c.advance.ensures.within (c.loop-remaining.invariant.within are))

pub run-returns-in-None-clause-within : goal.run-returns-in-None-clause-within
run-returns-in-None-clause-within t c = λ are.
    c.resume.ensures.within c.args.input.now.room (c.advance.ensures.within (c.loop-remaining.invariant.within are))

pub run-returns-in-None-clause-grows : goal.run-returns-in-None-clause-grows
run-returns-in-None-clause-grows t c = λ outs costs has.
    let before = c.loop-remaining.invariant.grows outs costs has in
    let grown = c.in_ok-to.ensures.grows outs costs has in
    omega (arith, before, grown, c.resume.ensures.shrinks)

pub run-returns-in-Accept-clause-grows : goal.run-returns-in-Accept-clause-grows
run-returns-in-Accept-clause-grows t c = λ outs costs has.
    let before = c.loop-remaining.invariant.grows outs costs has in
    let grown = c.in_ok-to.ensures.grows outs costs has in
    omega (arith, before, grown)

pub run-returns-in-OutOfSteps-clause-grows : goal.run-returns-in-OutOfSteps-clause-grows
run-returns-in-OutOfSteps-clause-grows t c = λ outs costs has.
    let before = c.loop-remaining.invariant.grows outs costs has in
    let grown = c.in_ok-to.ensures.grows outs costs has in
    omega (arith, before, grown)

pub run-returns-clause-grows : goal.run-returns-clause-grows
run-returns-clause-grows t c = λ outs costs has.
    let before = c.loop-remaining.invariant.grows outs costs has in
    omega (arith, before)
