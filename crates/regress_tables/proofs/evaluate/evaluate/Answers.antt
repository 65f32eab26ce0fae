use Rattle.std.proofs.Common.{◌≡◌, ap, subst, arith, false}
use Rattle.regress_leaves.specs.Leaves.{exactly}
use Rattle.regress_leaves.specs.Subject.{subject}
use Rattle.regress_tree.specs.Reading.{direction_if}
use Rattle.regress_tree.specs.Tree.{tree}
use Rattle.regress_program.specs.Linear.{is_back_reference}
use Rattle.regress_program.specs.Program.{matcher_of}
use Rattle.regress_program.specs.Shape.{Fits}
use Rattle.regress_code.specs.Code.{code_routines}
use Rattle.regress_program.specs.Views.{op_in}
use Rattle.regress_program.proofs.lemmas.Onward.{Stays-tree}
use Rattle.regress_tables.proofs.EvaluateLemmas.{characters_is, leaf_is, part_yields, split_yields, begin_yields, repeat_yields, end_yields, unsets_yields, begin_group_yields, end_group_yields, look_yields, reached-within, look-earlier}
use Rattle.regress_tables.proofs.evaluate.evaluate.Goals as goal

pub reached-requires-clause-to : goal.reached-requires-clause-to
reached-requires-clause-to c =
    let u = subject c.args.input.rules c.args.input.text.now in
    let can = c.requires.can in
    reached-within u.bytes u.direction _ c.args.position _ _ (Stays-tree u.setting u.bytes u.direction (tree c.in-Some.test.now.node))
    (omega (arith, can.length, can.next.position_in)) can.length c.end_after-to.ensures

pub reached-requires-in-Characters-clause-to : goal.reached-requires-in-Characters-clause-to
reached-requires-in-Characters-clause-to c =
    let u = subject c.args.input.rules c.args.input.text.now in
    let can = c.requires.can in
    reached-within u.bytes u.direction _ c.args.position _ _ (Stays-tree u.setting u.bytes u.direction (exactly c.in-Characters.count (tree c.in-Some-test.test.now.node)))
    (omega (arith, can.length, can.next.position_in)) can.length c.characters_end-to.ensures

pub end_after-to-requires : goal.end_after-to-requires
end_after-to-requires c =
    let can = c.requires.can in
    let program = code_routines c.args.input.code.now in
    let fits = subst (Fits _ _ can.pc) (leaf_is _ _ _ _ _ c.in-Leaf.is c.in-Some.ensures) can.fits in
    record {
      part = fits.0;
      captures = subst (λ op. is_back_reference op ≡ false) (leaf_is _ _ _ _ _ c.in-Leaf.is c.in-Some.ensures) can.no_reference;
      read = c.requires.read;
    }

pub characters_end-to-requires : goal.characters_end-to-requires
characters_end-to-requires c =
    let can = c.requires.can in
    let fits = subst (Fits _ _ _) (characters_is _ _ _ _ _ _ c.in-Characters.is c.in-Some-test.ensures) can.fits in
    record {
      one = fits.0.1;
      inside = omega (arith, can.length, can.next.position_in);
      run = c.known_at-run.ensures (subject c.args.input.rules c.args.input.text.now) c.args.input.code.now.program.leaves.items c.requires.runs c.in-Some-test.test.now c.in-Some-test.ensures;
    }

pub looks-requires-clause-earlier : goal.looks-requires-clause-earlier
looks-requires-clause-earlier c =
    let can = c.requires.can in
    let fits = subst (Fits _ _ can.pc) (ap (op_in c.args.input.code.now.program.leaves.items) c.in-Look.is) can.fits in
    look-earlier _ _ c.in-Look.routine fits.0

pub returns-in-Split : goal.returns-in-Split
returns-in-Split c = λ outs tables right.
    let u = subject c.args.input.rules c.args.input.text.now in
    let body_of = matcher_of u.setting u.bytes (code_routines c.args.input.code.now) outs in
    let can = c.requires.can in
    split_yields u.setting u.bytes u.direction body_of (outs _) c.args.table.now right can.pc c.args.moved c.args.position can.next _ _ can.fits
    c.in-Split.first c.in-Split.second _ _ (ap (op_in c.args.input.code.now.program.leaves.items) c.in-Split.is)
    c.cell.ensures c.cell-in-Split.ensures

pub returns-in-BeginLoop : goal.returns-in-BeginLoop
returns-in-BeginLoop c = λ outs tables right.
    let u = subject c.args.input.rules c.args.input.text.now in
    let body_of = matcher_of u.setting u.bytes (code_routines c.args.input.code.now) outs in
    let can = c.requires.can in
    begin_yields u.setting u.bytes u.direction body_of (outs _) c.args.table.now right can.pc c.args.moved c.args.position can.next _ _ can.fits
    c.in-BeginLoop.greedy c.in-BeginLoop.body c.in-BeginLoop.next _ _ (ap (op_in c.args.input.code.now.program.leaves.items) c.in-BeginLoop.is)
    c.cell-in-BeginLoop.ensures c.cell-in-BeginLoop-2.ensures

pub returns-in-Repeat : goal.returns-in-Repeat
returns-in-Repeat c = λ outs tables right.
    let u = subject c.args.input.rules c.args.input.text.now in
    let body_of = matcher_of u.setting u.bytes (code_routines c.args.input.code.now) outs in
    let can = c.requires.can in
    repeat_yields u.setting u.bytes u.direction body_of (outs _) c.args.table.now right can.pc c.args.moved c.args.position can.next _ _ can.fits
    c.in-Repeat.greedy c.in-Repeat.body c.in-Repeat.next _ _ (ap (op_in c.args.input.code.now.program.leaves.items) c.in-Repeat.is)
    c.cell-in-Repeat.ensures c.cell-in-Repeat-2.ensures

pub returns-in-EndLoop : goal.returns-in-EndLoop
returns-in-EndLoop c = λ outs tables right.
    let u = subject c.args.input.rules c.args.input.text.now in
    let body_of = matcher_of u.setting u.bytes (code_routines c.args.input.code.now) outs in
    let can = c.requires.can in
    end_yields u.setting u.bytes u.direction body_of (outs _) c.args.table.now right can.pc c.args.moved c.args.position can.next _ _ can.fits
    c.in-EndLoop.next _ (ap (op_in c.args.input.code.now.program.leaves.items) c.in-EndLoop.is)
    c.cell-in-EndLoop.ensures

pub returns-in-Unset : goal.returns-in-Unset
returns-in-Unset c = λ outs tables right.
    let u = subject c.args.input.rules c.args.input.text.now in
    let body_of = matcher_of u.setting u.bytes (code_routines c.args.input.code.now) outs in
    let can = c.requires.can in
    unsets_yields u.setting u.bytes u.direction body_of (outs _) c.args.table.now right can.pc c.args.moved c.args.position can.next _ _ can.fits
    c.in-Unset.start c.in-Unset.end c.in-Unset.next _ (ap (op_in c.args.input.code.now.program.leaves.items) c.in-Unset.is)
    c.cell-in-Unset.ensures

pub returns-in-BeginGroup : goal.returns-in-BeginGroup
returns-in-BeginGroup c = λ outs tables right.
    let u = subject c.args.input.rules c.args.input.text.now in
    let body_of = matcher_of u.setting u.bytes (code_routines c.args.input.code.now) outs in
    let can = c.requires.can in
    begin_group_yields u.setting u.bytes u.direction body_of (outs _) c.args.table.now right can.pc c.args.moved c.args.position can.next _ _ can.fits
    c.in-BeginGroup.next _ (ap (op_in c.args.input.code.now.program.leaves.items) c.in-BeginGroup.is)
    c.cell-in-BeginGroup.ensures

pub returns-in-EndGroup : goal.returns-in-EndGroup
returns-in-EndGroup c = λ outs tables right.
    let u = subject c.args.input.rules c.args.input.text.now in
    let body_of = matcher_of u.setting u.bytes (code_routines c.args.input.code.now) outs in
    let can = c.requires.can in
    end_group_yields u.setting u.bytes u.direction body_of (outs _) c.args.table.now right can.pc c.args.moved c.args.position can.next _ _ can.fits
    c.in-EndGroup.id c.in-EndGroup.next _ (ap (op_in c.args.input.code.now.program.leaves.items) c.in-EndGroup.is)
    c.cell-in-EndGroup.ensures

pub returns-in-Look : goal.returns-in-Look
returns-in-Look c = λ outs tables right.
    let u = subject c.args.input.rules c.args.input.text.now in
    let body_of = matcher_of u.setting u.bytes (code_routines c.args.input.code.now) outs in
    let can = c.requires.can in
    look_yields u.setting u.bytes u.direction body_of (outs _) c.args.table.now right can.pc c.args.moved c.args.position can.next _ _ can.fits
    c.in-Look.negate c.in-Look.routine c.in-Look.next _ _ (ap (op_in c.args.input.code.now.program.leaves.items) c.in-Look.is)
    (c.looks.ensures outs tables) c.cell-in-Look.ensures

pub returns-in-Some : goal.returns-in-Some
returns-in-Some c = λ outs tables right.
    let u = subject c.args.input.rules c.args.input.text.now in
    let body_of = matcher_of u.setting u.bytes (code_routines c.args.input.code.now) outs in
    let can = c.requires.can in
    part_yields u.setting u.bytes u.direction body_of (outs _) c.args.table.now right can.pc c.args.moved c.args.position can.next _ _ can.fits
    (tree c.in-Some.test.now.node) c.in-Leaf.next c.end_after-to.result _ (leaf_is _ _ _ _ _ c.in-Leaf.is c.in-Some.ensures)
    (omega (arith, can.length, can.next.position_in)) can.length (ap direction_if can.backwards)
    c.end_after-to.ensures c.reached.ensures

pub returns-in-Some-test : goal.returns-in-Some-test
returns-in-Some-test c = λ outs tables right.
    let u = subject c.args.input.rules c.args.input.text.now in
    let body_of = matcher_of u.setting u.bytes (code_routines c.args.input.code.now) outs in
    let can = c.requires.can in
    part_yields u.setting u.bytes u.direction body_of (outs _) c.args.table.now right can.pc c.args.moved c.args.position can.next _ _ can.fits
    (exactly c.in-Characters.count (tree c.in-Some-test.test.now.node)) c.in-Characters.next c.characters_end-to.result _ (characters_is _ _ _ _ _ _ c.in-Characters.is c.in-Some-test.ensures)
    (omega (arith, can.length, can.next.position_in)) can.length (ap direction_if can.backwards)
    c.characters_end-to.ensures c.reached-in-Characters.ensures
