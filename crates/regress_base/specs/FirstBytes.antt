-- The first bytes of code points in UTF-8.
use Rattle.std.specs.Prelude.{◌≡◌, ℕ, ◌≤◌, Some, slice_get, encode_utf8}

-- b is the first byte of a code point from `first` to `last`, both included
pub record IsFirstByteBetween (first last b : ℕ) : Type 0 where
  pub code_point : ℕ
  pub from_first : first ≤ code_point
  pub to_last : code_point ≤ last
  pub begins : slice_get (encode_utf8 code_point) 0 ≡ Some b
