use Rattle.std.proofs.Common.{◌∙◌, ap, chars, sym}
use Rattle.std.proofs.lemmas.List.Sums.{list_all-from_AllPass}
use Rattle.regress_ecma.specs.CodeUnits.{is_exact}
use Rattle.regress_ecma.proofs.lemmas.Searches.{decoded}
use Rattle.regress.proofs.exact.is_exact_text.Goals as goal
use lib.Utf8.{scalar}

pub returns-then-unicode : goal.returns-then-unicode
returns-then-unicode c =
    let text = chars c.args.text.now in
    c.if-unicode.true
    ∙ sym (ap (λ u. is_exact u text) c.if-unicode.true ∙ list_all-from_AllPass scalar text (decoded c.args.text.now c.utf8.text))
