use Rattle.std.proofs.Common.{◌++◌, length, take, flat_map, codes}
use Rattle.std.specs.Fmt.{HasWritten, IsPlainFormatter, decimal}
use Rattle.regress_tree.specs.Display.{hexadecimal}
use Rattle.regress_tree.proofs.ir.display.write_byte_sequence.Given as goal

-- the bytes so far
abbrev pub invariant-loop-byte : goal.invariant-loop-byte
invariant-loop-byte g l =
    let so_far = flat_map hexadecimal (take l.byte-index l.bytes) in
    IsPlainFormatter l.fn.f → HasWritten g.W.Write.write_str_gives l.fn.f ((codes "ByteSeq" ++ decimal (length l.bytes) ++ codes " 0x") ++ so_far) l.f
