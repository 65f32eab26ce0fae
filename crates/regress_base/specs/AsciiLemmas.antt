-- No byte above 127 is a member of an `AsciiBitmap`.
use Rattle.std.specs.Prelude.{◌≡◌, ℕ, ◌≤◌, false}
use Rattle.std.proofs.lemmas.Bool.{le-ltb}
use Rattle.std.proofs.Common.{refl, arith}
use Rattle.regress_base.specs.AsciiBitmap.{ascii_contains}
use Rattle.regress_base.specs.declared.bytesearch.ascii.AsciiBitmap.{AsciiBitmap}

-- No byte above 127 is a member.
pub ascii_contains-above : (s : AsciiBitmap) (b : ℕ) → 128 ≤ b → ascii_contains s b ≡ false
unfolding ascii_contains
ascii_contains-above s b h = rw (le-ltb b 128 h) refl

-- Every member is a byte.
pub ascii_contains-bytes_only : (s : AsciiBitmap) (b : ℕ) → 256 ≤ b → ascii_contains s b ≡ false
ascii_contains-bytes_only s b h = ascii_contains-above s b (omega arith)
