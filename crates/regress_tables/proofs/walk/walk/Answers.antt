use Rattle.std.proofs.Common.{◌||◌, ◌≡◌, true, false, slice_get, Some, refl, sym, ap, ◌∙◌, arith}
use Rattle.std.proofs.lemmas.Bool.{and_parts}
use Rattle.regress_program.specs.Listed.{listed}
use Rattle.regress_program.specs.Tidy.{has_no_back_reference}
use Rattle.regress_program.specs.Linear.{is_linear}
use Rattle.regress_code.specs.Code.{code_routines, code_tidy}
use Rattle.regress_program.specs.Views.{op_in, routine_in}
use Rattle.regress_tables.specs.Walked.{place_of}
use Rattle.regress_tables.proofs.FirstLemmas.{op-here, way-ends, way-goes}
use Rattle.regress_tables.proofs.WalkLemmas.{accepts-only, can_walk}
use Rattle.regress_tables.proofs.walk.walk.Goals as goal

pub returns-in-Accept-clause-ends : goal.returns-in-Accept-clause-ends
returns-in-Accept-clause-ends c = λ outs solution full right some.
    let r = routine_in c.args.input.code.now.program.leaves.items c.args.routine.now in
    let can = c.requires.can in
    let w = c.walk.walker in
    let i = c.at-instruction.result in
    let here : slice_get r.ops w.pc ≡ Some (op_in c.args.input.code.now.program.leaves.items i) =
    op-here c.args.input.code.now.program.leaves.items (listed c.args.routine.now) w.pc i c.at-instruction.ensures in (
      refl,
      way-ends c.args.input r c.args.table.now (op_in c.args.input.code.now.program.leaves.items i) c.args.walker.now w can here c.walk.invariant.pc c.walk.invariant.position c.walk.invariant.leads
          outs (record { solution = solution; full = full; right = right }) some (ap (op_in c.args.input.code.now.program.leaves.items) c.in-Accept.is),
    )

pub step-requires : goal.step-requires
step-requires c =
    let program = code_routines c.args.input.code.now in
    let r = routine_in c.args.input.code.now.program.leaves.items c.args.routine.now in
    let can = c.requires.can in
    let w = c.walk.walker in
    let i = c.at-instruction.result in
    let here : slice_get r.ops w.pc ≡ Some (op_in c.args.input.code.now.program.leaves.items i) =
    op-here c.args.input.code.now.program.leaves.items (listed c.args.routine.now) w.pc i c.at-instruction.ensures in
    record {
      tabled = c.requires.tabled;
      can = can_walk c.args.input r c.args.table.now (op_in c.args.input.code.now.program.leaves.items i) (place_of w) (and_parts (has_no_back_reference program) (is_linear program || code_tidy c.args.input.code.now) c.requires.tabled).0 can c.walk.invariant.pc
          c.walk.invariant.position here;
      at = record { routine = r; is = can.is; here = here; clean = c.walk.invariant.clean };
    }

pub returns-then-not-branch : goal.returns-then-not-branch
returns-then-not-branch c = record {
  count = c.in_ok-step.ensures.count ∙ c.walk.invariant.count;
  ends = λ outs solution full right some.
      let r = routine_in c.args.input.code.now.program.leaves.items c.args.routine.now in
      let can = c.requires.can in
      let w = c.walk.walker in
      let i = c.at-instruction.result in
      let here : slice_get r.ops w.pc ≡ Some (op_in c.args.input.code.now.program.leaves.items i) =
      op-here c.args.input.code.now.program.leaves.items (listed c.args.routine.now) w.pc i c.at-instruction.ensures in
      let goes = way-goes c.args.input r c.args.table.now (op_in c.args.input.code.now.program.leaves.items i) c.args.walker.now w can here c.walk.invariant.pc c.walk.invariant.position
      c.walk.invariant.leads outs (record { solution = solution; full = full; right = right }) some c.in_ok-step.field-0 c.step.new.walker
      (λ is. c.in_default.not-Accept (accepts-only c.args.input.code.now.program.leaves.items i is)) c.walk.invariant.count
      (λ o knows other some'. c.in_ok-step.ensures.leads o knows.solution knows.full knows.right other some') in
      let bad : true ≡ false = sym goes.0 ∙ c.if-not-branch.true in
      cc;
  captures = λ inner le inside. c.in_ok-step.ensures.inside inner le (c.walk.invariant.captures inner le inside);
  inside = λ ends. let bad : true ≡ false = sym ends ∙ refl in cc;
  falls = λ ends. let bad : true ≡ false = sym ends ∙ refl in cc;
  steps = λ ends. let bad : true ≡ false = sym ends ∙ refl in cc;
}

pub walk-preserved : goal.walk-preserved
walk-preserved c = record {
  pc = (c.in_ok-step.ensures.below c.if-not-branch.false).pc;
  position = (c.in_ok-step.ensures.below c.if-not-branch.false).position;
  steps = let below = c.in_ok-step.ensures.below c.if-not-branch.false in omega (arith, below.lower);
  falls = let below = c.in_ok-step.ensures.below c.if-not-branch.false in omega (arith, below.lower, c.walk.invariant.falls);
  count = c.in_ok-step.ensures.count ∙ c.walk.invariant.count;
  clean = c.in_ok-step.ensures.clean (routine_in c.args.input.code.now.program.leaves.items c.args.routine.now) c.requires.can.is c.if-not-branch.false;
  captures = λ inner le inside. c.in_ok-step.ensures.inside inner le (c.walk.invariant.captures inner le inside);
  leads = λ outs knows some.
      let r = routine_in c.args.input.code.now.program.leaves.items c.args.routine.now in
      let can = c.requires.can in
      let w = c.walk.walker in
      let i = c.at-instruction.result in
      let here : slice_get r.ops w.pc ≡ Some (op_in c.args.input.code.now.program.leaves.items i) =
      op-here c.args.input.code.now.program.leaves.items (listed c.args.routine.now) w.pc i c.at-instruction.ensures in
      (way-goes c.args.input r c.args.table.now (op_in c.args.input.code.now.program.leaves.items i) c.args.walker.now w can here c.walk.invariant.pc c.walk.invariant.position c.walk.invariant.leads outs
      knows some c.in_ok-step.field-0 c.step.new.walker (λ is. c.in_default.not-Accept (accepts-only c.args.input.code.now.program.leaves.items i is)) c.walk.invariant.count
      (λ o knows' other some'. c.in_ok-step.ensures.leads o knows'.solution knows'.full knows'.right other some')).1;
}
