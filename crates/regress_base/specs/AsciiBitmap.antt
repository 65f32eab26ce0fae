-- The set of bytes that an `AsciiBitmap` represents.
use Rattle.std.specs.Prelude.{ℕ, Bool, ◌&&◌, nat_lt}
use Rattle.regress_base.specs.ByteSets.{bit_in}
use Rattle.regress_base.specs.declared.bytesearch.ascii.AsciiBitmap.{AsciiBitmap}

-- b is a member: a number below 128 whose bit is set, with 8 bits in a cell
unfoldable pub ascii_contains : AsciiBitmap → ℕ → Bool
ascii_contains s b = nat_lt b 128 && bit_in 8 s.0 b
