-- The result of the call that writes a sentence for a syntax error. Which sentence it is, the definition leaves open.
use Rattle.std.specs.Prelude.{ℕ, List}
use Rattle.regress_capi.specs.TextResults.{TextResult}

-- The status, `needed`, and the buffer before and after. `Known` states that there is the kind of error, and `Utf8` that the
-- pattern is UTF-8.
pub data SentenceResult (Known Utf8 : Type 0) (old : List ℕ) : (status needed : ℕ) (new : List ℕ) → Type 0 where
  -- a text is written, or the buffer is too small, or the arguments are invalid
  sentence_given : {status needed : ℕ} {new : List ℕ} → TextResult (Known × Utf8) (λ _. Unit {0}) old status needed new →
      SentenceResult Known Utf8 old status needed new
  -- an allocation failed
  sentence_out_of_memory : Known → Utf8 → SentenceResult Known Utf8 old 2 0 old
