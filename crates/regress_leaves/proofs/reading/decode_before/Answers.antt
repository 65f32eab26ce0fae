use Rattle.std.proofs.Common.{rules, arith, ◌≡◌, ◌≤◌, ◌-◌, ◌++◌, ◌∙◌, length, take, sym, ap₂, Some}
use Rattle.std.proofs.lemmas.Bool.{false≢true}
use Rattle.std.specs.Char.{IsScalar, encode_utf8}
use Rattle.regress_leaves.proofs.ReadingLemmas.{before_none, before_some}
use Rattle.regress_leaves.proofs.reading.decode_before.Goals as goal

pub returns-in_err-before : goal.returns-in_err-before
returns-in_err-before c =
    rw c.from_residual.ensures
    (sym (before_none c.args.text.now c.args.position c.utf8.text (λ some on. false≢true (c.in_err-before.ensures.variant.1 on))))

pub returns-in_err-c : goal.returns-in_err-c
returns-in_err-c c =
    let none : length c.in_ok-before.before.now ≡ 0 = search rules in
    let zero : c.args.position ≡ 0 = omega (arith, none, c.in_ok-before.ensures.front_len) in
    rw c.from_residual-in_err-c.ensures
    (sym (before_none c.args.text.now c.args.position c.utf8.text (λ some on. absurd (omega (arith, zero, some)))))

pub returns : goal.returns
returns c =
    let text = c.args.text.now in
    let x = c.in_ok-c.c in
    let xs = c.next_back.new.self.rest.now in
    let split : take c.args.position text ≡ xs ++ encode_utf8 x = search rules in
    let scalar : IsScalar x = search rules in
    let within : c.args.position ≤ length text = (c.in_ok-before.ensures.variant.0 (search rules)).0 in
    ap₂ (λ y n. Some (record { character = y; position = c.args.position - n })) c.from.ensures c.len_utf8.ensures.value
    ∙ sym (before_some text c.args.position x xs scalar within split)
