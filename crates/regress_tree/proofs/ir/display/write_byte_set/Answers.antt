-- The text written so far, and one more byte.
use Rattle.std.proofs.Common.{◌++◌, true, length, flat_map, codes, refl, sym, ap, append-nil}
use Rattle.std.proofs.lemmas.List.{take_all}
use Rattle.std.proofs.Output.{has_written_append, has_written_of_eq}
use Rattle.std.specs.Fmt.{decimal}
use Rattle.regress_tree.specs.Display.{hexadecimal}
use Rattle.regress_tree.proofs.LoopLemmas.{joined_next}
use Rattle.regress_tree.proofs.ir.display.write_byte_set.Goals as goal

pub loop-byte-init : goal.loop-byte-init
loop-byte-init g c plain =
    let text = codes "ByteSet" ++ decimal (length c.args.bytes.now) in
    has_written_of_eq _ _ _ _ _ (sym (append-nil text)) (c.in_ok-write.ensures.writes plain (refl {a = true}))

pub loop-byte-preserved : goal.loop-byte-preserved
loop-byte-preserved g c plain =
    let bytes = c.args.bytes.now in
    let so_far = c.loop-byte.invariant plain in
    let one = (rw c.in_radix.ensures at c.in_ok-write-2.ensures.writes) so_far.plain (refl {a = true}) in
    let text = codes "ByteSet" ++ decimal (length bytes) in
    has_written_of_eq _ _ _ _ _ (joined_next (λ b. codes " 0x" ++ hexadecimal b) text bytes c.loop-byte.byte-index 0 c.loop-byte-test.true)
    (has_written_append _ _ _ _ _ _ so_far one)

pub returns : goal.returns
returns g c plain ok =
    let bytes = c.args.bytes.now in
    let text = codes "ByteSet" ++ decimal (length bytes) in
    has_written_of_eq _ _ _ _ _
    (ap (λ bs. text ++ flat_map (λ b. codes " 0x" ++ hexadecimal b) bs) (take_all c.loop-byte.byte-index bytes c.loop-byte-test.false))
    (c.loop-byte.invariant plain)
