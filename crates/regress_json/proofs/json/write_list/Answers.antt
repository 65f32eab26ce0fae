use Rattle.std.proofs.Common.{[], ◌++◌, refl, ap, add-one, codes}
use Rattle.std.proofs.lemmas.List.{take_all}
use Rattle.std.proofs.Output.{has_written_append, has_written_of_eq}
use Rattle.regress_json.proofs.JsonLemmas.{comma-is_text, join-more}
use Rattle.regress_json.proofs.json.write_list.Goals as goal

pub loop-value-init : goal.loop-value-init
loop-value-init g c = record {
  text = ([], (refl, refl));
  comma = refl;
  written = λ shown means plain. c.in_ok-write_str.ensures.writes plain refl;
}

pub loop-value-preserved : goal.loop-value-preserved
loop-value-preserved g c = record {
  text = comma-is_text;
  comma = rw add-one refl;
  written = λ shown means plain.
      let l = c.loop-value in
      let value = c.value-item.result in
      let so_far = l.invariant.written shown means plain in
      let own = (rw (means value) at c.in_ok-write.ensures.writes) so_far.plain refl in
      let more = join-more shown c.args.values.now l.value-index value l.comma.now c.loop-value-test.true l.invariant.comma c.value-item.is in
      has_written_of_eq _ _ _ _ _ (ap (λ text. codes "[" ++ text) more) (has_written_append _ _ _ _ _ _ so_far own);
}

pub returns : goal.returns
returns g c shown means plain ok =
    let l = c.loop-value in
    let all = take_all l.value-index c.args.values.now c.loop-value-test.false in
    let so_far = rw all at (l.invariant.written shown means plain) in
    has_written_append _ _ _ _ _ _ so_far (c.write_str-2.ensures.writes so_far.plain ok)
