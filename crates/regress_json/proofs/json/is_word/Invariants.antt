use Rattle.std.proofs.Common.{◌≡◌, drop}
use Rattle.regress_json.specs.Json.{is_word}
use Rattle.regress_json.proofs.json.is_word.Given as goal

-- the remaining bytes decide
abbrev pub invariant-loop-byte : goal.invariant-loop-byte
invariant-loop-byte l = is_word (drop l.byte-index l.bytes) ≡ is_word l.bytes
