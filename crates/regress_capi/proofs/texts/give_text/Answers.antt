use Rattle.regress_capi.proofs.TextLemmas.{text-given, text-too-long}
use Rattle.std.proofs.Common.{refl}
use Rattle.regress_capi.proofs.texts.give_text.Goals as goal

pub returns-then-copy_to : goal.returns-then-copy_to
returns-then-copy_to c = text-given c.args.text.now c.as_bytes.result.now refl c.as_bytes.ensures.value c.if-copy_to.ensures

pub returns-else-copy_to : goal.returns-else-copy_to
returns-else-copy_to c =
    text-too-long c.args.text.now c.as_bytes.result.now refl c.as_bytes.ensures.value c.if-copy_to.ensures.0 c.if-copy_to.ensures.1
