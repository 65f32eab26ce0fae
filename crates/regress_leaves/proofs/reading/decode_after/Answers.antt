use Rattle.std.proofs.Common.{rules, ◌≡◌, ◌+◌, ◌++◌, ◌∙◌, length, drop, sym, ap₂, Some}
use Rattle.std.proofs.lemmas.Bool.{false≢true}
use Rattle.std.specs.Char.{IsScalar, encode_utf8}
use Rattle.regress_tree.proofs.lemmas.Characters.{character_at_from}
use Rattle.regress_leaves.proofs.ReadingLemmas.{after_none, read_after_none, read_after_some, end_none}
use Rattle.regress_leaves.proofs.reading.decode_after.Goals as goal

pub returns-in_err-after : goal.returns-in_err-after
returns-in_err-after c =
    let text = c.args.text.now in
    rw c.from_residual.ensures (sym (read_after_none text c.args.position (after_none text c.args.position
    (λ on. false≢true (c.in_err-after.ensures.variant.1 on)))))

pub returns-in_err-c : goal.returns-in_err-c
returns-in_err-c c =
    let text = c.args.text.now in
    let none : length (drop c.args.position text) ≡ 0 = search rules in
    rw c.from_residual-in_err-c.ensures (sym (read_after_none text c.args.position (end_none text c.args.position none)))

pub returns : goal.returns
returns c =
    let text = c.args.text.now in
    let x = c.in_ok-c.c in
    let rest = c.next.new.self.rest.now in
    let here : drop c.args.position text ≡ encode_utf8 x ++ rest = search rules in
    let scalar : IsScalar x = search rules in
    ap₂ (λ y n. Some (record { character = y; position = c.args.position + n })) c.from.ensures c.len_utf8.ensures.value
    ∙ sym (read_after_some text c.args.position x (character_at_from text c.args.position x rest scalar here))
