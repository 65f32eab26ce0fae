-- The text written so far, and one more code point.
use Rattle.std.proofs.Common.{◌-◌, ◌++◌, ◌∷◌, true, take, drop, length, get_or, codes, refl, sym, ap, ◌∙◌, append-nil}
use Rattle.std.proofs.lemmas.List.{take_all}
use Rattle.std.proofs.Output.{has_written_append, has_written_of_eq}
use Rattle.regress_tree.specs.Tree.{char_set}
use Rattle.regress_tree.specs.Display.{hexadecimal, leaf_text}
use Rattle.regress_tree.proofs.LoopLemmas.{joined_next, first_and_rest}
use Rattle.regress_tree.proofs.ir.display.write_char_set.Goals as goal

pub loop-c-init : goal.loop-c-init
loop-c-init g c plain =
    let kind = c.in_ok-write_str.ensures.writes plain (refl {a = true}) in
    let first = (rw c.in_radix.ensures at c.in_ok-write.ensures.writes) kind.plain (refl {a = true}) in
    let text = codes "CharSet " ++ codes "0x" ++ hexadecimal (get_or c.args.characters.now 0 0) in
    has_written_of_eq _ _ _ _ _ (sym (append-nil text)) (has_written_append _ _ _ _ _ _ kind first)

pub loop-c-preserved : goal.loop-c-preserved
loop-c-preserved g c plain =
    let characters = c.args.characters.now in
    let rest = take (length characters - 1) (drop 1 characters) in
    let so_far = c.loop-c.invariant plain in
    let one = (rw c.in_radix-in-loop-c.ensures at c.in_ok-write-2.ensures.writes) so_far.plain (refl {a = true}) in
    let text = codes "CharSet " ++ codes "0x" ++ hexadecimal (get_or characters 0 0) in
    has_written_of_eq _ _ _ _ _ (joined_next (λ d. codes ", " ++ codes "0x" ++ hexadecimal d) text rest c.loop-c.c-index 0 c.loop-c-test.true)
    (has_written_append _ _ _ _ _ _ so_far one)

pub returns-after-loop-c : goal.returns-after-loop-c
returns-after-loop-c g c plain ok =
    let characters = c.args.characters.now in
    let rest = take (length characters - 1) (drop 1 characters) in
    let all = ap (λ cs. get_or characters 0 0 ∷ cs) (take_all c.loop-c.c-index rest c.loop-c-test.false) in
    has_written_of_eq _ _ _ _ _ (ap (λ cs. leaf_text (char_set cs)) (all ∙ first_and_rest characters 0 c.in-len1-up.len_at_least))
    (c.loop-c.invariant plain)
