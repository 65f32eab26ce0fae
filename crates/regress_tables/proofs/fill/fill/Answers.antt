use Rattle.std.proofs.Common.{◌≡◌, ◌+◌, ◌*◌, length, sym, ap, ◌∙◌, arith}
use Rattle.std.proofs.lemmas.List.{length-map}
use Rattle.regress_tree.specs.Reading.{direction_if}
use Rattle.regress_program.specs.Listed.{listed}
use Rattle.regress_program.specs.Views.{op_in}
use Rattle.regress_tables.specs.Table.{evaluated}
use Rattle.regress_tables.proofs.FillLemmas.{row-is}
use Rattle.regress_tables.proofs.MemoLemmas.{known-start}
use Rattle.regress_tables.proofs.RowLemmas.{first-row}
use Rattle.regress_tables.proofs.fill.fill.Goals as goal

pub fill_row-requires-clause-at : goal.fill_row-requires-clause-at
fill_row-requires-clause-at c =
    let so_far = c.loop-row.invariant in
    first-row c.loop-row.table c.row_of-position.result c.loop-row.row
    (row-is c.loop-row.table _ _ c.loop-row.row c.row_of-position.result c.row_of-position.ensures.value so_far.backwards (omega (arith, so_far.of.text)) (omega arith))
    so_far.rows

pub loop-row-preserved : goal.loop-row-preserved
loop-row-preserved c =
    let so_far = c.loop-row.invariant in
    let same = c.in_ok-fill_row.ensures.shape in
    let t = c.loop-row.table in
    let more : length (evaluated c.fill_row.new.table) ≡ (c.loop-row.row + 1) * (2 * t.width) = omega (arith, c.in_ok-fill_row.ensures.more, so_far.rows) in
    record {
      of = record {
        width = same.width ∙ so_far.of.width;
        text = same.length ∙ so_far.of.text;
        direction = ap direction_if same.backwards ∙ so_far.of.direction;
      };
      backwards = same.backwards ∙ so_far.backwards;
      rows = more ∙ ap (λ w. (c.loop-row.row + 1) * (2 * w)) (sym same.width);
      coded = c.in_ok-fill_row.ensures.digits;
      runs = c.in_ok-fill_row.ensures.runs;
      stored = λ some. c.in_ok-test_room.ensures.fits;
      known = c.in_ok-fill_row.ensures.known;
    }

pub loop-row-init : goal.loop-row-init
loop-row-init c = record {
  of = record {
    width =
        let items = listed c.args.routine.now in
        omega (arith, c.in_ok-table.ensures.width, c.len.ensures, length-map items (op_in c.args.input.code.now.program.leaves.items));
    text = c.in_ok-table.ensures.length;
    direction = ap direction_if c.in_ok-table.ensures.backwards;
  };
  backwards = c.in_ok-table.ensures.backwards;
  rows = ap length c.in_ok-table.ensures.empty ∙ omega arith;
  coded = c.in_ok-memo.ensures.digits c.in_ok-table.table;
  runs = c.in_ok-memo.ensures.runs;
  stored = λ none. absurd (omega (arith, none));
  known = known-start _ _ c.in_ok-table.table c.in_ok-memo.memo c.in_ok-table.ensures.empty c.in_ok-memo.ensures.covers c.in_ok-memo.ensures.bytes c.in_ok-memo.ensures.tests c.in_ok-memo.ensures.repetitions c.in_ok-memo.ensures.empty;
}

pub returns-clause-full : goal.returns-clause-full
returns-clause-full c =
    let so_far = c.loop-row.invariant in
    let t = c.loop-row.table in
    let count : c.loop-row.row ≡ t.length + 1 =
    omega (arith, so_far.of.text, c.loop-row-test.false, c.loop-row.auto.row-end) in
    so_far.rows ∙ ap (λ k. k * (2 * t.width)) count

pub returns-clause-filled : goal.returns-clause-filled
returns-clause-filled c = λ outs solution right. (c.loop-row.invariant.known.knows outs solution right).right

pub returns-clause-stored : goal.returns-clause-stored
returns-clause-stored c = c.loop-row.invariant.stored (omega (arith, c.loop-row-test.false, c.loop-row.auto.row-end))
