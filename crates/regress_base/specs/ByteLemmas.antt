-- Every member of a byte set is a byte.
use Rattle.std.specs.Prelude.{◌≡◌, ℕ, ◌≤◌, false, List}
use Rattle.std.proofs.lemmas.Bool.{le-ltb}
use Rattle.std.proofs.Common.{refl}
use Rattle.regress_base.specs.ByteSets.{bytes_of}
use Rattle.regress_base.specs.ByteBitmap.{contains}
use Rattle.regress_base.specs.declared.bytesearch.bitmap.ByteBitmap.{ByteBitmap}

-- No number above 255 is among the bytes of a list.
pub bytes_of-bytes_only : (xs : List ℕ) (b : ℕ) → 256 ≤ b → bytes_of xs b ≡ false
unfolding bytes_of
bytes_of-bytes_only xs b h = rw (le-ltb b 256 h) refl

-- No number above 255 is a member.
pub contains-bytes_only : (s : ByteBitmap) (b : ℕ) → 256 ≤ b → contains s b ≡ false
unfolding contains
contains-bytes_only s b h = rw (le-ltb b 256 h) refl
