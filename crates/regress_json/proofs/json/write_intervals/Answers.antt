use Rattle.std.proofs.Common.{refl, add-one, append_assoc, arith}
use Rattle.std.proofs.lemmas.List.{take_all}
use Rattle.std.proofs.Output.{has_written_append, has_written_of_eq}
use Rattle.regress_json.specs.Json.{interval}
use Rattle.regress_json.proofs.JsonLemmas.{comma-is_text, join-more}
use Rattle.regress_json.proofs.NumeralLemmas.{decimal-numeral}
use Rattle.regress_json.proofs.json.write_intervals.Goals as goal

pub loop-interval-preserved : goal.loop-interval-preserved
loop-interval-preserved g c = record {
  text = comma-is_text;
  comma = rw add-one refl;
  written = λ plain.
      let l = c.loop-interval in
      let so_far = l.invariant.written plain in
      let own = (rw (
        decimal-numeral c.first-first.result (omega arith),
        decimal-numeral c.last-last.result (omega arith),
        c.first-first.ensures.value,
        c.last-last.ensures.value,
      ) at c.in_ok-write.ensures.writes) so_far.plain refl in
      let more = join-more interval c.args.intervals.now l.interval-index c.interval-item.result l.comma.now c.loop-interval-test.true
      l.invariant.comma c.interval-item.is in
      has_written_of_eq _ _ _ _ _ more (has_written_append _ _ _ _ _ _ so_far
      (has_written_of_eq _ _ _ _ _ (simp append_assoc) own));
}

pub returns : goal.returns
returns g c plain ok =
    let all = take_all c.loop-interval.interval-index c.args.intervals.now c.loop-interval-test.false in
    rw all at (c.loop-interval.invariant.written plain)
