-- Each iteration adds the bytes of one word.
use Rattle.std.proofs.Common.{◌≡◌, ◌/◌, ◌&&◌, ◌||◌, ◌∙◌, ap, eqb, leb, length, arith, rules}
use Rattle.std.proofs.lemmas.Bool.Decides.{nat_tests}
use Rattle.regress_base.specs.ByteBitmap.{contains}
use Rattle.regress_base.proofs.BitmapLemmas.{IsRunWithin, run_joins, run_more}
use Rattle.regress_base.proofs.bytesearch.bitmap.ByteBitmap.set_run.Goals as goal
use Rattle.regress_base.proofs.bytesearch.bitmap.ByteBitmap.set_run.Goals.{then-word-start, else-word-start, then-word-end, else-word-end}

pub loop-word-preserved : goal.loop-word-preserved
loop-word-preserved c =
    let run : IsRunWithin c.args.first c.args.last c.loop-word.word c.if-word-start.low c.if-word-end.high = record {
      from = omega arith;
      to = omega arith;
      low_first = λ e. elim c.if-word-start.branch [ then-word-start w ↦ omega arith | else-word-start w ↦ absurd (omega arith) ];
      low_else = λ ne. elim c.if-word-start.branch [ then-word-start w ↦ absurd (omega arith) | else-word-start w ↦ omega arith ];
      high_last = λ e. elim c.if-word-end.branch [ then-word-end w ↦ omega arith | else-word-end w ↦ absurd (omega arith) ];
      high_else = λ ne. elim c.if-word-end.branch [ then-word-end w ↦ absurd (omega arith) | else-word-end w ↦ omega arith ];
    } in
    let h = c.well_formed in
    let len : length c.loop-word.self.words ≡ 16 = search rules in
    λ k.
    let inside = leb c.args.first k && leb k c.args.last in
    run_joins c.loop-word.self c.args.first c.args.last c.loop-word.word _ _ c.bits_between.result k len (omega arith) run
    c.bits_between.ensures
    ∙ ap (λ t. (inside && eqb (k / 16) c.loop-word.word) || t) (c.loop-word.invariant k)
    ∙ run_more inside (contains c.args.self.now k) k c.loop-word.word

pub returns : goal.returns
returns c = λ k. let so_far = c.loop-word.invariant k in grind (arith, nat_tests)
