use Rattle.std.proofs.Common.{◌≡◌, length, rules, ap, ◌∙◌}
use Rattle.std.specs.Str.{chars}
use Rattle.std.proofs.lemmas.Str.{chars_from_encodes}
use Rattle.regress_tree.proofs.TextLemmas.{reports-one}
use Rattle.regress_tree.proofs.ir.well_formed.is_encoded_character.Goals as goal

pub returns-in-Ok : goal.returns-in-Ok
returns-in-Ok c =
    let reported = c.in-Ok.ensures.cases in
    let count : c.count.result ≡ length (chars c.in-Ok.text.now) = search (rules, chars_from_encodes) in
    reports-one c.args.bytes.now c.count.result reported.1 (count ∙ ap (λ bytes. length (chars bytes)) reported.0)
