use Rattle.std.proofs.Common.{refl, add-one}
use Rattle.std.specs.Box.{boxed_slice_items}
use Rattle.std.proofs.lemmas.List.{take_all}
use Rattle.std.proofs.Output.{has_written_append, has_written_of_eq}
use Rattle.regress_json.specs.Json.{numbers}
use Rattle.regress_json.proofs.JsonLemmas.{comma-is_text, join-more, join-map}
use Rattle.regress_json.proofs.json.write_strings.Goals as goal

pub loop-string-preserved : goal.loop-string-preserved
loop-string-preserved g c = record {
  text = comma-is_text;
  comma = rw add-one refl;
  written = λ plain.
      let l = c.loop-string in
      let string = c.string-item.result in
      let so_far = l.invariant.written plain in
      let comma = c.in_ok-write_str.ensures.writes so_far.plain refl in
      let own = rw c.deref.ensures.value at (c.in_ok-write_numbers.ensures comma.plain refl) in
      let more = join-more (λ s. numbers (boxed_slice_items s)) c.args.strings.now l.string-index string l.comma.now c.loop-string-test.true
      l.invariant.comma c.string-item.is in
      has_written_of_eq _ _ _ _ _ more (has_written_append _ _ _ _ _ _ so_far (has_written_append _ _ _ _ _ _ comma own));
}

pub returns : goal.returns
returns g c plain ok =
    let strings = c.args.strings.now in
    let all = take_all c.loop-string.string-index strings c.loop-string-test.false in
    has_written_of_eq _ _ _ _ _ (join-map numbers boxed_slice_items strings) (rw all at (c.loop-string.invariant.written plain))
