use Rattle.std.proofs.Common.{◌≡◌, ◌<◌, ◌++◌, [], ◌∷◌, length, slice_get, Some, option_map, refl, sym, ap, ◌∙◌, subst, arith, length-append}
use Rattle.std.proofs.lemmas.List.{length-map}
use Rattle.std.proofs.lemmas.Option.{slice_get-map}
use Rattle.regress_leaves.specs.Subject.{subject}
use Rattle.regress_tree.specs.Reading.{direction_if}
use Rattle.regress_code.specs.Code.{code_routines}
use Rattle.regress_program.specs.Listed.{listed}
use Rattle.regress_program.specs.Views.{op_in, ops_in, routine_in}
use Rattle.regress_tables.specs.Table.{evaluated, size}
use Rattle.regress_tables.proofs.EvaluateLemmas.{index-within}
use Rattle.regress_tables.proofs.FillLemmas.{SameShape-trans, push_right, evaluated_tells, is_next, can_evaluate}
use Rattle.regress_tables.proofs.RowLemmas.{Grows-none, Grows-trans, evaluated-grows}
use Rattle.regress_tables.proofs.fill.fill_half.Goals as goal

pub evaluate-bit-requires-clause-can : goal.evaluate-bit-requires-clause-can
evaluate-bit-requires-clause-can c =
    let items = listed c.args.routine.now in
    let pc = c.loop-pc.pc in
    let so_far = c.loop-pc.invariant in
    let is_op : slice_get (ops_in c.args.input.code.now.program.leaves.items items) pc ≡ Some (op_in c.args.input.code.now.program.leaves.items c.at.result) =
    slice_get-map (op_in c.args.input.code.now.program.leaves.items) items pc ∙ ap (option_map (op_in c.args.input.code.now.program.leaves.items)) c.at.ensures in
    can_evaluate c.args.input (routine_in c.args.input.code.now.program.leaves.items c.args.routine.now) c.args.table.now c.loop-pc.table pc c.args.moved c.args.position c.requires.can
    c.requires.position c.requires.at so_far.shape so_far.more (omega (arith, length-map items (op_in c.args.input.code.now.program.leaves.items))) (op_in c.args.input.code.now.program.leaves.items c.at.result) c.requires.no_reference is_op

pub push-requires : goal.push-requires
push-requires c =
    let t = c.loop-pc.table in
    let items = listed c.args.routine.now in
    let so_far = c.loop-pc.invariant in
    let next = is_next c.args.input (routine_in c.args.input.code.now.program.leaves.items c.args.routine.now) c.args.table.now t c.loop-pc.pc c.args.moved c.args.position c.requires.can c.requires.position
    c.requires.at so_far.shape so_far.more (omega (arith, length-map items (op_in c.args.input.code.now.program.leaves.items))) in
    subst (λ n. n < size t) next.at (index-within t c.loop-pc.pc c.args.moved c.args.position next.pc_in next.position_in)

pub loop-pc-preserved : goal.loop-pc-preserved
loop-pc-preserved c =
    let u = subject c.args.input.rules c.args.input.text.now in
    let program = code_routines c.args.input.code.now in
    let i = length c.args.input.tables.now in
    let r = routine_in c.args.input.code.now.program.leaves.items c.args.routine.now in
    let items = listed c.args.routine.now in
    let pc = c.loop-pc.pc in
    let t = c.loop-pc.table in
    let t2 = c.push.new.self in
    let bit = c.evaluate-bit.result in
    let so_far = c.loop-pc.invariant in
    let pushed = c.in_ok-push.ensures in
    let bits = evaluated-grows t t2 (bit ∷ []) pushed in
    let is_op : slice_get (ops_in c.args.input.code.now.program.leaves.items items) pc ≡ Some (op_in c.args.input.code.now.program.leaves.items c.at.result) =
    slice_get-map (op_in c.args.input.code.now.program.leaves.items) items pc ∙ ap (option_map (op_in c.args.input.code.now.program.leaves.items)) c.at.ensures in
    let can = c.requires.can in
    let lt : pc < length r.ops = omega (arith, length-map items (op_in c.args.input.code.now.program.leaves.items)) in
    let next = is_next c.args.input r c.args.table.now t pc c.args.moved c.args.position can c.requires.position c.requires.at so_far.shape so_far.more lt in
    record {
      more = ap length bits ∙ omega (arith, so_far.more, length-append (evaluated t) (bit ∷ []));
      shape = SameShape-trans c.args.table.now t t2 so_far.shape pushed.shape;
      grows = (so_far.grows.0 ++ bit ∷ [], Grows-trans c.args.table.now t t2 so_far.grows.0 (bit ∷ []) so_far.grows.1 pushed);
      filled = λ old outs solution tables.
          let right = so_far.filled old outs solution tables in
          push_right (outs i) t t2 pc c.args.moved c.args.position bit right next
          (evaluated_tells u.setting u.bytes program outs i r (op_in c.args.input.code.now.program.leaves.items c.at.result) u.direction pc c.args.moved c.args.position bit
          solution can.is is_op lt (sym can.of.direction ∙ ap direction_if can.backwards) (omega (arith, c.requires.position, can.of.text))
          (c.evaluate-bit.ensures outs tables right))
          bits pushed.shape;
    }

pub loop-pc-init : goal.loop-pc-init
loop-pc-init c = record {
  more = omega arith;
  shape = record { width = refl; length = refl; backwards = refl };
  grows = ([], Grows-none c.args.table.now);
  filled = λ filled. filled;
}
