-- One more byte is appended.
use Rattle.std.proofs.Common.{◌++◌, ◌∷◌, [], length, take, append_assoc, append-nil, sym, ap, ◌∙◌}
use Rattle.std.proofs.lemmas.List.{take_more}
use Rattle.regress_encoding.specs.Encoding.{wide}
use Rattle.regress_encoding.proofs.parts.push_bytes.Goals as goal

pub loop-byte-init : goal.loop-byte-init
loop-byte-init c = c.in_ok-push_wide.ensures ∙ sym (append-nil _)

pub loop-byte-preserved : goal.loop-byte-preserved
loop-byte-preserved c =
    let bytes = c.args.bytes.now in
    let i = c.loop-byte.byte-index in
    let before = c.args.words.now.items ++ wide (length bytes) in
    c.in_ok-push.ensures.items ∙ ap (λ ws. ws ++ c.from.result ∷ []) c.loop-byte.invariant
    ∙ append_assoc before (take i bytes) (c.from.result ∷ [])
    ∙ ap (λ bs. before ++ bs) (ap (λ b. take i bytes ++ b ∷ []) c.from.ensures ∙ sym (take_more bytes i 0 c.loop-byte-test.true))
