use Rattle.std.proofs.Common.{refl, arith}
use Rattle.regress_capi.proofs.TextLemmas.{text-ended, text-whole}
use Rattle.regress_capi.proofs.texts.give_terminated.Goals as goal

pub returns-then-text-out : goal.returns-then-text-out
returns-then-text-out c =
    text-ended {mid = c.give_text-status.new.out} c.args.text.now c.give_text-status.ensures (omega arith) refl

pub returns-else-text-out : goal.returns-else-text-out
returns-else-text-out c = text-whole c.args.text.now c.give_text-status.ensures (omega arith)
