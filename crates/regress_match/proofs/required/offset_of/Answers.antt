use Rattle.std.proofs.Common.{arith, ◌≡◌, ◌-◌, ◌∙◌, length, take, drop, ap}
use Rattle.std.proofs.lemmas.List.{length-drop, take_all}
use Rattle.regress_match.proofs.RequiredLemmas.{offset_is}
use Rattle.regress_match.proofs.required.offset_of.Goals as goal

pub returns : goal.returns
returns c =
    let bytes = c.as_bytes-bytes.result.now in
    let from = c.args.from in
    let whole : take (length bytes - from) (drop from bytes) ≡ drop from c.args.text.now =
    take_all (length bytes - from) (drop from bytes) (omega (arith, length-drop from bytes)) ∙ ap (drop from) c.as_bytes-bytes.ensures.value in
    offset_is c.args.byte c.args.text.now _ from c.memchr.result whole c.memchr.ensures
