-- Keys that differ decide.
use Rattle.std.proofs.Common.{inl, inr, sym, ◌∙◌, arith}
use Rattle.std.proofs.lemmas.Bool.{cases_lt, lt-ltb, le-ltb}
use Rattle.regress_strings.specs.Ordered.{string_of}
use Rattle.regress_strings.proofs.KeyLemmas.{after-by-key, not_after-by-key}
use Rattle.regress_strings.proofs.keys.is_after.Goals as goal

pub returns-else-here-key : goal.returns-else-here-key
returns-else-here-key c =
    let place = c.args.place in
    let string = string_of c.args.order.now place in
    let text = c.args.text.now in
    let here = c.requires.keys.keys_are place (omega arith) in
    let key = c.requires.key in
    elim (cases_lt c.args.key _) [
      | inl lt ↦ lt-ltb c.args.key _ lt ∙ sym (after-by-key string text (c.requires.keys.bytes place (omega arith)) (omega (arith, here, key, lt)))
      | inr ge ↦ le-ltb c.args.key _ ge ∙ sym (not_after-by-key string text c.requires.bytes (omega (arith, here, key, ge)))
    ]
