-- The text has the characters so far, which are scalar values.
use Rattle.std.proofs.Common.{◌≡◌, All, encode_utf8_all, string_bytes, take}
use Rattle.std.specs.Char.{IsScalar}
use Rattle.regress_code.proofs.rows.encoded.Given as goal

abbrev pub invariant-loop-c : goal.invariant-loop-c
invariant-loop-c l = record {
  scalars : All IsScalar (take l.c-index l.characters);
  text : string_bytes l.text ≡ encode_utf8_all (take l.c-index l.characters);
}
