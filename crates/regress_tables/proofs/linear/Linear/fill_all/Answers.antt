use Rattle.std.proofs.Common.{List, ◌≡◌, ◌+◌, ◌*◌, ◌≤◌, [], ◌∷◌, IfSome, IsSome, length, slice_get, take, Some, option_map, refl, sym, ap, ◌∙◌, subst, arith, length-append}
use Rattle.std.proofs.Math.Seq.{take-length}
use Rattle.std.proofs.lemmas.List.{length-map}
use Rattle.std.proofs.lemmas.Option.{slice_get-map, slice_get_read}
use Rattle.regress_found.specs.declared.fault.MemoryFault.TheVariants.{TooMuchMemory}
use Rattle.regress_program.specs.Compiled.{total}
use Rattle.regress_code.specs.Code.{code_routines}
use Rattle.regress_program.specs.Views.{routine_in}
use Rattle.regress_tables.specs.declared.table.Table.{Table}
use Rattle.regress_tables.specs.Memory.{stored_bytes}
use Rattle.regress_tables.specs.Table.{IsTableOf, AreTables, AreRight, IsRight}
use Rattle.regress_program.proofs.lemmas.Totals.{total-more}
use Rattle.regress_tables.proofs.FillLemmas.{push_tables, push_are_right, more_bits}
use Rattle.regress_tables.proofs.MemoryLemmas.{passed_on, room-left, room-limited, stored-more}
use Rattle.regress_tables.proofs.linear.Linear.fill_all.Goals as goal

pub loop-routine-preserved : goal.loop-routine-preserved
loop-routine-preserved c =
    let so_far = c.loop-routine.invariant in
    let code = c.args.self.now.code.now in
    let view = routine_in code.program.leaves.items in
    let routines = code.program.routines.items in
    let same = c.deref-routine-items.ensures.value in
    let program = code_routines code in
    let i = c.loop-routine.routine-index in
    let tables = c.loop-routine.tables.items in
    let t = c.in_ok-table.table in
    let n = length c.args.text.now in
    let r = view c.routine-item.result in
    let is : slice_get program i ≡ Some r =
    slice_get-map view routines i ∙ ap (option_map view)
    (subst (λ xs. slice_get xs i ≡ Some c.routine-item.result) same (slice_get_read _ _ i _ refl c.loop-routine-test.true c.routine-item.is)) in
    let of : IsTableOf c.args.text.now r t = c.in_ok-table.ensures.of in
    let pushed = c.in_ok-push.ensures.items in
    let more = stored-more tables c.push.new.self.items t pushed ∙ ap (λ k. stored_bytes tables + k) (sym c.stored_bytes.ensures) in
    let room =
    room-left c.args.room c.loop-routine.left c.room_after-left.result (stored_bytes tables) c.stored_bytes.result (stored_bytes c.push.new.self.items) so_far.left so_far.stored
    (subst (λ k. IfSome c.loop-routine.left (λ most. k ≤ most)) (sym c.stored_bytes.ensures) c.in_ok-table.ensures.stored)
    c.room_after-left.ensures more in
    let last : slice_get program (length tables) ≡ Some r = ap (slice_get program) so_far.count ∙ is in
    record {
      count = ap length pushed ∙ omega (arith, length-append tables (t ∷ []), so_far.count);
      tables = subst (AreTables c.args.text.now program) (sym pushed)
          (push_tables tables t c.args.text.now program r so_far.tables last of c.in_ok-table.ensures.full);
      right = λ outs solution.
          subst (AreRight outs) (sym pushed)
          (push_are_right tables t outs (so_far.right outs solution)
          (subst (λ (xs : List Table). IsRight (outs (length xs)) t) c.deref.ensures.value
          (c.in_ok-table.ensures.filled outs solution (subst (AreRight outs) (sym c.deref.ensures.value) (so_far.right outs solution)))));
      left = room.0;
      stored = room.1;
      counted = more_bits n (length r.ops) (total (take i program)) (total (take (i + 1) program)) c.size.result c.loop-routine.bits
          c.saturating_add-bits.result
          (total-more program i r is)
          (c.size.ensures ∙ ap (λ k. (k + 1) * (2 * t.width)) of.text ∙ ap (λ w. (n + 1) * (2 * w)) of.width)
          so_far.counted (omega arith);
    }

pub returns : goal.returns
returns c =
    let so_far = c.loop-routine.invariant in
    let code = c.args.self.now.code.now in
    let view = routine_in code.program.leaves.items in
    let routines = code.program.routines.items in
    let same = c.deref-routine-items.ensures.value in
    let program = code_routines code in
    let all : c.loop-routine.routine-index ≡ length program = omega (arith, length-map routines view, ap length same, c.loop-routine-test.false) in
    let sum : total (take c.loop-routine.routine-index program) ≡ total program = ap (λ k. total (take k program)) all ∙ ap total (take-length program) in
    record {
      filled = record { are = so_far.tables; all = so_far.count ∙ all; right = so_far.right };
      stored = so_far.stored;
      too_much = tt;
      counted = omega (arith, so_far.counted, ap (λ k. (length c.args.text.now + 1) * (2 * k)) sum);
    }

pub returns-in_err-table-clause-too_much : goal.returns-in_err-table-clause-too_much
returns-in_err-table-clause-too_much c =
    let limited = room-limited c.args.room c.loop-routine.left (stored_bytes c.loop-routine.tables.items) c.loop-routine.invariant.left in
    passed_on (λ fault. fault ≡ TooMuchMemory → IsSome c.args.room) c.from_residual.result c.in_err-table.field-0.0 c.from_residual.ensures.1
    (λ is. limited (c.in_err-table.ensures.too_much is))
