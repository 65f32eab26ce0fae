-- The string that a `Needle` searches for.
use Rattle.std.specs.Prelude.{ℕ, List}
use Rattle.regress_base.specs.declared.bytesearch.strings.Needle.{Needle}

-- the bytes that are searched for
abbrev pub needle_bytes : Needle → List ℕ
needle_bytes needle = needle.bytes.now
