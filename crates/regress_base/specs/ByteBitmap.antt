-- The set of bytes that a `ByteBitmap` represents.
use Rattle.std.specs.Prelude.{ℕ, Bool, ◌&&◌, nat_lt, map}
use Rattle.std.specs.Bool.{beq}
use Rattle.std.specs.Ordering.{on}
use Rattle.std.specs.Cmp.Lexicographic.{pointwise}
use Rattle.regress_base.specs.ByteSets.{bit_in, all_bytes}
use Rattle.regress_base.specs.declared.bytesearch.bitmap.ByteBitmap.{ByteBitmap}

-- b is a member: a byte whose bit is set, with 16 bits in a word
unfoldable pub contains : ByteBitmap → ℕ → Bool
contains s b = nat_lt b 256 && bit_in 16 s.words b

-- both sets have the same members among all bytes
abbrev pub same_members : ByteBitmap → ByteBitmap → Bool
same_members = on (λ s. map (contains s) all_bytes) (pointwise beq)
