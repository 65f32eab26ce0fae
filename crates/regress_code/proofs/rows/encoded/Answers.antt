use Rattle.std.proofs.Common.{◌++◌, All, encode_utf8_all, take, sym, ap, ap₂, ◌∙◌, subst}
use Rattle.std.proofs.lemmas.List.{take_more}
use Rattle.std.proofs.lemmas.List.Elements.{All-push}
use Rattle.std.specs.Char.{IsScalar, encode_utf8}
use Rattle.regress_code.proofs.RowLemmas.{encode-push}
use Rattle.regress_code.proofs.rows.encoded.Goals as goal

pub loop-c-preserved : goal.loop-c-preserved
loop-c-preserved c =
    let characters = c.args.characters.now in
    let i = c.loop-c.c-index in
    let so_far = c.loop-c.invariant in
    let value = c.in-Some.ensures.value in
    let more = take_more characters i 0 c.loop-c-test.true in
    record {
      scalars = subst (All IsScalar) (sym more) (All-push IsScalar (take i characters) _ so_far.scalars value.0);
      text = c.in_ok-push.ensures.bytes ∙ ap₂ ◌++◌ so_far.text (ap encode_utf8 value.1) ∙ sym (ap encode_utf8_all more ∙ encode-push (take i characters) _);
    }
