use Rattle.std.proofs.Common.{◌++◌, ◌∙◌, ap}
use Rattle.std.specs.Char.{encode_utf8}
use Rattle.regress_rewrite.proofs.LeafLemmas.{encoded_lawful}
use Rattle.regress_rewrite.proofs.form_literal_bytes.form_character.Goals as goal

pub returns-clause-lawful : goal.returns-clause-lawful
returns-clause-lawful c d =
    let character = c.in-Some.ensures.value in
    encoded_lawful d c.args.c character.0 c.into_bytes.result
    (ap (λ v. v.items) c.into_bytes.ensures.value
    ∙ c.in_ok-push.ensures.bytes
    ∙ ap (λ bytes. bytes ++ encode_utf8 c.in-Some.c) c.new-text.ensures.bytes
    ∙ ap encode_utf8 character.1)
