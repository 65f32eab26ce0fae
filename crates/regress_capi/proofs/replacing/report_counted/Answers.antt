use Rattle.std.proofs.Common.{◌≡◌, refl, subst}
use Rattle.regress_capi.specs.TextResults.{PlainResult}
use Rattle.regress_capi.proofs.replacing.report_counted.Goals as goal

pub returns-in-Ok : goal.returns-in-Ok
returns-in-Ok c =
    rw c.in-Ok.is (
      subst (λ text. PlainResult (λ bytes. bytes ≡ text) c.args.out.now c.give_text-status.result c.give_text-status.new.needed
          c.give_text-status.new.out) c.deref.ensures c.give_text-status.ensures,
      refl,
    )
