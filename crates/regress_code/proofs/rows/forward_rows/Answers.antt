use Rattle.std.proofs.Common.{◌≡◌, ◌-◌, IfSome, [], false, length, sym, ap, ◌∙◌, subst, arith}
use Rattle.regress_strings.specs.Contents.{contents}
use Rattle.regress_code.specs.Rows.{AreChoices, AreRows, IsBegun, first_leaf}
use Rattle.regress_code.proofs.RowLemmas.{more_strings, no_strings}
use Rattle.regress_code.proofs.rows.forward_rows.Goals as goal
use Rattle.regress_code.proofs.rows.forward_rows.Goals.{in-Some+in_ok-push-in-Some, in-None+in_ok-push_row-in-None}

pub loop-pc-preserved : goal.loop-pc-preserved
loop-pc-preserved c =
    let folds = c.args.folds in
    let leaves = c.args.leaves.now in
    let instructions = c.args.instructions.now in
    let so_far = c.loop-pc.invariant in
    elim c.match-branch-2.branch [
      | in-Some+in_ok-push-in-Some w ↦
          let more = more_strings folds leaves instructions c.loop-pc.pc c.loop-pc.strings.items c.match-branch-2.strings.items w.in-Some.string
          (ap (λ v. v.items) w.strings-is ∙ w.in_ok-push-in-Some.ensures.items) so_far.few so_far.begun
          (subst (λ o. IfSome o (λ string. IsBegun folds string.items (first_leaf leaves instructions c.loop-pc.pc))) w.in-Some.is c.in_ok-string.ensures) in
          record {
            rows = subst (λ r. AreRows folds r.items leaves instructions false) (sym w.rows-is) so_far.rows;
            few = more.0;
            begun = more.1;
          }
      | in-None+in_ok-push_row-in-None w ↦
          let none : c.match-branch-2.strings.items ≡ [] = ap (λ v. v.items) w.strings-is ∙ w.new-strings-in-None.ensures.items in
          let count = ap length none in
          record {
            rows = subst (λ r. AreRows folds r.items leaves instructions false) (sym w.rows-is) (w.in_ok-push_row-in-None.ensures folds leaves instructions so_far.rows so_far.begun);
            few = omega (arith, count);
            begun = no_strings folds leaves instructions _ c.match-branch-2.strings.items none;
          }
    ]

pub returns : goal.returns
returns c =
    let folds = c.args.folds in
    let leaves = c.args.leaves.now in
    let instructions = c.args.instructions.now in
    let strings = c.loop-pc.strings.items in
    let so_far = c.loop-pc.invariant in
    let end : c.loop-pc.pc ≡ length instructions = omega (arith, c.loop-pc-test.false, c.loop-pc.auto.pc-end) in
    c.in_ok-push_row.ensures folds leaves instructions so_far.rows
    (subst (λ n. AreChoices folds leaves instructions (n - length strings) (contents strings)) end so_far.begun)
