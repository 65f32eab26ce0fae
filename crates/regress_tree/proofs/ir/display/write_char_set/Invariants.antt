use Rattle.std.proofs.Common.{◌∷◌, get_or, take}
use Rattle.std.specs.Fmt.{HasWritten, IsPlainFormatter}
use Rattle.regress_tree.specs.Tree.{char_set}
use Rattle.regress_tree.specs.Display.{leaf_text}
use Rattle.regress_tree.proofs.ir.display.write_char_set.Given as goal

-- the code points so far
abbrev pub invariant-loop-c : goal.invariant-loop-c
invariant-loop-c g l =
    let so_far = get_or l.characters 0 0 ∷ take l.c-index l.rest in
    IsPlainFormatter l.fn.f → HasWritten g.W.Write.write_str_gives l.fn.f (leaf_text (char_set so_far)) l.f
