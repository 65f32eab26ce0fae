use Rattle.std.proofs.Common.{◌≡◌, subst}
use Rattle.regress_capi.specs.TextResults.{PlainResult}
use Rattle.regress_capi.proofs.expanding.report.Goals as goal

pub returns-in-Ok-Some : goal.returns-in-Ok-Some
returns-in-Ok-Some c =
    rw (c.in-Ok-Some.is, c.in-Ok-Some.field-0-is)
    (subst (λ text. PlainResult (λ bytes. bytes ≡ text) c.args.out.now c.give_text.result c.give_text.new.needed c.give_text.new.out)
    c.deref.ensures c.give_text.ensures)
