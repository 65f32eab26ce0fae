-- The text of a pattern of code points.
use Rattle.std.specs.Prelude.{ℕ, List, map, encode_utf8_all, if◌then◌else◌}
use Rattle.regress_front.specs.Source.{Source}
use Rattle.regress_front.specs.Utf8.{is_scalar}

-- a code point, with U+FFFD for a surrogate, which UTF-8 does not have
abbrev pub shown : ℕ → ℕ
shown c = if is_scalar c then c else 0xFFFD

-- the text of code points, in UTF-8
abbrev pub text_of : Source → List ℕ
text_of points = encode_utf8_all (map shown points)
