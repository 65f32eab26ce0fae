-- An excerpt of the source text of a pattern.
use Rattle.std.specs.Prelude.{◌≡◌, ◌≢◌, ℕ, List, [], ◌++◌, Option, Some, None, encode_utf8, if◌then◌else◌, length, nat_le, nat_lt, slice_range, take}
use Rattle.regress_labels.specs.Symbols.{IsShownText}
use Rattle.regress_parse.specs.declared.span.Span.{Span}

-- the maximum number of characters that it shows
abbrev pub excerpt_length : ℕ
excerpt_length = 60

-- the code points at a span of a pattern; none if it is not inside the pattern
abbrev pub points_at : List ℕ → Option Span → List ℕ
points_at pattern None = []
points_at pattern (Some span) = if nat_le span.end (length pattern) then slice_range pattern span.start span.end else []

-- an ellipsis, if these are too many characters
abbrev pub ellipsis : List ℕ → List ℕ
ellipsis points = if nat_lt excerpt_length (length points) then encode_utf8 0x2026 else []

-- The bytes show these characters, cut off if there are many.
abbrev pub ShowsFirst : (points bytes : List ℕ) → Type 0
ShowsFirst points bytes = (shown : List ℕ) × IsShownText (take excerpt_length points) shown × (bytes ≡ shown ++ ellipsis points)

-- the excerpt of these characters: none if there are none
abbrev pub IsExcerpt : (points : List ℕ) → (excerpt : Option (List ℕ)) → Type 0
IsExcerpt points None = points ≡ []
IsExcerpt points (Some bytes) = (points ≢ []) × ShowsFirst points bytes
