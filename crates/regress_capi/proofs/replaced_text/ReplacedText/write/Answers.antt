use Rattle.std.proofs.Common.{◌≡◌, subst}
use Rattle.regress_capi.specs.TextResults.{PlainResult}
use Rattle.regress_capi.proofs.replaced_text.ReplacedText.write.Goals as goal

pub returns : goal.returns
returns c =
    subst (λ text. PlainResult (λ bytes. bytes ≡ text) c.args.out.now c.give_text.result c.give_text.new.needed c.give_text.new.out)
    c.deref.ensures c.give_text.ensures
