-- The results of calls that write a text which does not depend on a search.
use Rattle.std.specs.Prelude.{◌≡◌, ◌<◌, ◌≤◌, ◌-◌, ◌++◌, ◌∷◌, ℕ, List, [], Some, drop, length, option_map, slice_get, unwrap_or}
use Rattle.regress_front.specs.WellFormed.{Capture}
use Rattle.regress_capi.specs.Results.{Gives, IsTooSmall}

-- the rest of a buffer, with 0 in place of its first item, if it has one
abbrev pub terminated : List ℕ → List ℕ
terminated [] = []
terminated (b ∷ rest) = 0 ∷ rest

-- A text with this property is at the start of the buffer, a zero follows if there is room, and `needed` is the length of
-- the text.
abbrev pub GivesText : (List ℕ → Type 0) → (needed : ℕ) (old new : List ℕ) → Type 0
GivesText P needed old new = (text : List ℕ) × P text × (needed ≡ length text) × (new ≡ text ++ terminated (drop (length text) old))

-- The status, `needed`, and the buffer before and after, of a text that is written without a zero.
pub data PlainResult (P : List ℕ → Type 0) (old : List ℕ) : (status needed : ℕ) (new : List ℕ) → Type 0 where
  -- the whole text is written
  plain_written : {needed : ℕ} {new : List ℕ} → Gives P needed old new → PlainResult P old 0 needed new
  -- the buffer is too small
  plain_little : {needed : ℕ} → IsTooSmall P needed old → PlainResult P old 3 needed old

-- The status, `needed`, and the buffer before and after. `Asked` states that the arguments are valid, and `P` what is
-- written.
pub data TextResult (Asked : Type 0) (P : List ℕ → Type 0) (old : List ℕ) : (status needed : ℕ) (new : List ℕ) → Type 0 where
  -- the whole text is written
  text_written : {needed : ℕ} {new : List ℕ} → Asked → GivesText P needed old new → TextResult Asked P old 0 needed new
  -- the buffer is too small
  text_little : {needed : ℕ} → Asked → IsTooSmall P needed old → TextResult Asked P old 3 needed old
  -- the arguments are invalid
  text_bad : (Asked → ⊥) → TextResult Asked P old 4 0 old

-- the capture groups have one with this number, from 1
abbrev pub HasGroup : List Capture → (number : ℕ) → Type 0
HasGroup groups number = (0 < number) × (number ≤ length groups)

-- The text is the name of the group with this number, and empty for a group without a name.
abbrev pub IsNameOf : List Capture → (number : ℕ) → List ℕ → Type 0
IsNameOf groups number text = option_map (λ group. unwrap_or group.name []) (slice_get groups (number - 1)) ≡ Some text
