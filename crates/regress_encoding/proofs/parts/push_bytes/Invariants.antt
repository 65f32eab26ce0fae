use Rattle.std.proofs.Common.{◌≡◌, ◌++◌, length, take}
use Rattle.regress_encoding.specs.Encoding.{wide}
use Rattle.regress_encoding.proofs.parts.push_bytes.Given as goal

-- the bytes so far
abbrev pub invariant-loop-byte : goal.invariant-loop-byte
invariant-loop-byte l = l.words.items ≡ (l.fn.words.items ++ wide (length l.bytes)) ++ take l.byte-index l.bytes
