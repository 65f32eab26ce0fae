-- The result of the call that escapes a text.
use Rattle.std.specs.Prelude.{◌≡◌, ℕ, List, IsUtf8, chars, encode_utf8_all}
use Rattle.regress_capi.specs.Results.{Gives, IsTooSmall}
use Rattle.regress_escape.specs.Escape.{escaped}

-- the pattern that matches the text, in UTF-8
abbrev pub IsEscaped : (text : List ℕ) → List ℕ → Type 0
IsEscaped text pattern = pattern ≡ encode_utf8_all (escaped (chars text))

-- The status, `needed`, and the buffer before and after.
pub data EscapeResult (text old : List ℕ) : (status needed : ℕ) (new : List ℕ) → Type 0 where
  -- the whole pattern is written
  escape_written : {needed : ℕ} {new : List ℕ} → IsUtf8 text → Gives (IsEscaped text) needed old new → EscapeResult text old 0 needed new
  -- an allocation failed
  escape_out_of_memory : IsUtf8 text → EscapeResult text old 2 0 old
  -- the buffer is too small
  escape_little : {needed : ℕ} → IsUtf8 text → IsTooSmall (IsEscaped text) needed old → EscapeResult text old 3 needed old
  -- the text is not UTF-8
  escape_bad : (IsUtf8 text → ⊥) → EscapeResult text old 4 0 old
