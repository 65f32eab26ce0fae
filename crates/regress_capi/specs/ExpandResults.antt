-- The result of the call that expands a template at a match.
use Rattle.std.specs.Prelude.{◌≡◌, ℕ, List, IsUtf8, length}
use Rattle.regress_front.specs.WellFormed.{Capture}
use Rattle.regress_found.specs.Found.{IsInside, state_of}
use Rattle.regress_found.specs.declared.found.Match.{Match}
use Rattle.regress.specs.Compiled.{groups_of}
use Rattle.regress.specs.declared.pattern.Regex.{Regex}
use Rattle.regress_capi.specs.ReplaceResults.{expanded}
use Rattle.regress_capi.specs.Results.{Gives, IsTooSmall}
use Rattle.regress_capi.specs.Spans.{match_ends}

-- A match inside the text has these numbers, and as many groups as the pattern.
pub record HasNumbers (text : List ℕ) (groups : List Capture) (numbers : List ℕ) (m : Match) : Type 0 where
  pub inside : IsInside text m
  pub count : length (state_of m).captures ≡ length groups
  pub ends : numbers ≡ match_ends m

-- The text and the template are UTF-8, and some match inside the text has the numbers.
pub record CanExpand (groups : List Capture) (text template numbers : List ℕ) : Type 0 where
  pub text_utf8 : IsUtf8 text
  pub template_utf8 : IsUtf8 template
  pub found : Match
  pub has : HasNumbers text groups numbers found

-- what the template expands to at the match that has the numbers
abbrev pub IsExpandedAt : Regex → (text template numbers : List ℕ) → List ℕ → Type 0
IsExpandedAt regex text template numbers out =
    (m : Match) × HasNumbers text (groups_of regex) numbers m × (out ≡ expanded regex text template m)

-- The status, `needed`, and the buffer before and after.
pub data ExpandResult (regex : Regex) (text template numbers old : List ℕ) : (status needed : ℕ) (new : List ℕ) → Type 0 where
  -- the whole text is written
  expand_written : {needed : ℕ} {new : List ℕ} → IsUtf8 text → IsUtf8 template → Gives (IsExpandedAt regex text template numbers) needed old new →
      ExpandResult regex text template numbers old 0 needed new
  -- an allocation failed
  expand_out_of_memory : IsUtf8 text → IsUtf8 template → ExpandResult regex text template numbers old 2 0 old
  -- the buffer is too small
  expand_little : {needed : ℕ} → IsUtf8 text → IsUtf8 template → IsTooSmall (IsExpandedAt regex text template numbers) needed old →
      ExpandResult regex text template numbers old 3 needed old
  -- the text or the template is not UTF-8, or no match inside the text has the numbers
  expand_bad : (CanExpand (groups_of regex) text template numbers → ⊥) → ExpandResult regex text template numbers old 4 0 old
