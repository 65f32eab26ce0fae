use Rattle.std.proofs.Common.{◌≡◌, ◌-◌, ◌<◌, length, slice_get, drop, get_or, refl, sym, ap, ◌∙◌, subst, arith}
use Rattle.std.proofs.lemmas.List.{get_or_read, length-drop}
use Rattle.regress_leaves.specs.Subject.{subject}
use Rattle.regress_program.specs.Program.{matcher_of}
use Rattle.regress_program.specs.Views.{routine_in}
use Rattle.regress_code.specs.Code.{code_routines}
use Rattle.regress_tables.specs.Probes.{Coded}
use Rattle.regress_tables.specs.Repetitions.{others_in}
use Rattle.regress_tables.proofs.KeptLemmas.{repetitions-same, repetitions-trans}
use Rattle.regress_tables.proofs.RepetitionLemmas.{coded-by, ends-same, repeated-probe}
use Rattle.regress_tables.proofs.MemoLemmas.{coded-more}
use Rattle.regress_tables.proofs.keys.probes_at.Goals as goal

pub loop-k-init : goal.loop-k-init
loop-k-init c =
    let input = c.args.input.now in
    let u = subject input.rules input.text.now in
    let leaves = input.code.now.program.leaves.items in
    let ops = (routine_in leaves c.args.routine.now).ops in
    let far = c.args.memo.now.far.items in
    let x = c.args.position in
    let t = c.args.table.now in
    let found = c.find_ends.new.self in
    let r = c.code.new.self in
    let is = c.in_ok-code.ensures.code in
    let same = repetitions-trans c.args.memo.now.repetitions found r c.find_ends.ensures.same c.code.ensures.same in
    let ends = ends-same u leaves t x found r c.code.ensures.same c.code.ensures.ends (c.find_ends.ensures.ends c.if-not-find_ends.false) in
    let are = repetitions-same leaves ops far far c.args.memo.now.repetitions r refl same c.requires.repetitions in
    let n = others_in far r in
    let n_is : n ≡ c.len.result - c.len-2.result = omega (arith, c.len.ensures, c.len-2.ensures) in
    record {
      runs = c.find_ends.ensures.runs;
      same = record { far = refl; direct = refl; slots = refl; bytes = refl; tests = refl; repetitions = same };
      rows = c.code.ensures.digits;
      within = omega (arith, c.len.ensures);
      coded = λ outs tables right.
          let body_of = matcher_of u.setting u.bytes (code_routines input.code.now) outs in
          let out = outs (length input.tables.now) in
          subst (λ k. Coded u.setting u.bytes u.direction body_of out ops (drop k far) x c.in_ok-code.code) n_is
          (subst (Coded u.setting u.bytes u.direction body_of out ops (drop n far) x) (sym is.is)
          (coded-by u body_of out t right ops x r.ends.items (drop n far) r.uses.items (omega (arith, are.count, length-drop n far)) is.stored
          (λ k pc repeated op at used is_op.
          repeated-probe u body_of out t right leaves ops far r k pc x repeated op c.requires.can.of.width are ends at used is_op)));
    }

pub loop-k-preserved : goal.loop-k-preserved
loop-k-preserved c =
    let so_far = c.loop-k.invariant in
    let input = c.args.input.now in
    let u = subject input.rules input.text.now in
    let ops = (routine_in input.code.now.program.leaves.items c.args.routine.now).ops in
    let far = c.args.memo.now.far.items in
    let k = c.loop-k.k in
    let pc = c.index-pc.result.now in
    let some : 0 < k = omega (arith, c.loop-k-test.true) in
    let before : k - 1 < length far = omega (arith, some, so_far.within) in
    let far_is = so_far.same.far in
    let pc_is : pc ≡ get_or far (k - 1) 0 =
    get_or_read c.loop-k.memo.far.items (k - 1) pc (omega (arith, before, ap length far_is)) c.index-pc.ensures 0 ∙ ap (λ xs. get_or xs (k - 1) 0) far_is in
    record {
      runs = c.in_ok-probe.ensures.runs;
      same = record {
        far = far_is;
        direct = so_far.same.direct;
        slots = so_far.same.slots;
        bytes = so_far.same.bytes;
        tests = so_far.same.tests;
        repetitions = so_far.same.repetitions;
      };
      rows = so_far.rows;
      within = omega (arith, so_far.within);
      coded = λ outs tables right.
          let body_of = matcher_of u.setting u.bytes (code_routines input.code.now) outs in
          let out = outs (length input.tables.now) in
          subst (λ n. Coded u.setting u.bytes u.direction body_of out ops (drop (k - 1) far) c.args.position n) (sym c.in_ok-next.ensures)
          (coded-more u.setting u.bytes u.direction body_of out ops far c.args.position k c.loop-k.code c.in_ok-probe.probe some so_far.within
          (λ op is. c.in_ok-probe.ensures.probe outs tables right op (ap (slice_get ops) pc_is ∙ is))
          (so_far.coded outs tables right));
    }

pub returns-clause-coded : goal.returns-clause-coded
returns-clause-coded c = λ outs tables right.
    let input = c.args.input.now in
    let u = subject input.rules input.text.now in
    let e : c.loop-k.k ≡ 0 = omega (arith, c.loop-k-test.false) in
    subst (λ k. Coded u.setting u.bytes u.direction (matcher_of u.setting u.bytes (code_routines input.code.now) outs) (outs (length input.tables.now))
    (routine_in input.code.now.program.leaves.items c.args.routine.now).ops (drop k c.args.memo.now.far.items) c.args.position c.loop-k.code) e (c.loop-k.invariant.coded outs tables right)
