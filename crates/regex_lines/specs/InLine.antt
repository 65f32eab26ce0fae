-- What is known of the texts of a line and of the matches in them when the line is shown.
use Rattle.std.specs.Prelude.{◌≡◌, ◌⊎◌, ℕ, ◌+◌, ◌<◌, ◌≤◌, ◌^◌, Bool, true, false, List, [], ◌∷◌, ◌++◌, All, flat_map, length, map, nat_lt}
use Rattle.std.specs.List.{Any, list_any}
use Rattle.regress_found.specs.Found.{IsInside}
use Rattle.regress_found.specs.declared.found.Match.{Match}
use Rattle.regress_replace.specs.Order.{AreInOrder}
use Rattle.regress.specs.Compiled.{groups_of, match_of}
use Rattle.regress.specs.declared.pattern.Regex.{Regex}
use Rattle.regex_options.specs.declared.task.Shown.{Shown}
use Rattle.regex_options.specs.declared.task.Shown.TheVariants.{Lines, Matches, Json, Count, Names, Nothing}
use Rattle.regex_lines.specs.Paint.{LinePaint, is_colored, painted_spans}
use Rattle.regex_lines.specs.Reply.{AreFirstFound, match_json, matches_json, ended, matches_shown, shown_match, spans_in, Run, TextMatches}
use Rattle.regex_lines.specs.declared.runs.TextMatches as code

-- The texts are in order in the part of a line of this length from an offset on.
abbrev pub AreInLine : (len from : ℕ) → List Run → Type 0
AreInLine len from [] = from ≤ len
AreInLine len from (run ∷ runs) = from ≤ run.start × AreInLine len (run.start + length run.text) runs

-- Byte offsets in the text, as offsets in the line, have 64 bits.
abbrev pub HasOffsets : Run → Type 0
HasOffsets run = run.start + length run.text < 2 ^ 64

-- The matches are inside their text, and in order.
pub record AreInText (f : code.TextMatches) : Type 0 where
  pub inside : All (λ m. IsInside f.run.text.now (match_of m)) f.matches.items
  pub order : AreInOrder 0 (map match_of f.matches.items)

-- There is a match in one of the texts.
abbrev pub HasMatch : List TextMatches → Type 0
HasMatch found = Any (λ f. 0 < length f.matches) found

-- the same as a test
abbrev pub has_matches : List TextMatches → Bool
has_matches found = list_any (λ f. nat_lt 0 (length f.matches)) found

-- All matches of a selected line are needed to show it.
abbrev pub needs_matches : Shown → LinePaint → Bool
needs_matches Lines p = is_colored p.matched
needs_matches Matches p = true
needs_matches Json p = true
needs_matches Count p = false
needs_matches Names p = false
needs_matches Nothing p = false

-- what is written for a selected line for which all its matches are needed
abbrev pub shown_by : Regex → (line : List ℕ) → Shown → LinePaint → (prefix : List ℕ) → List TextMatches → List ℕ
shown_by r line Lines p prefix found = prefix ++ ended (painted_spans p line 0 (flat_map spans_in found))
shown_by r line Matches p prefix found = flat_map (matches_shown p.matched prefix) found
shown_by r line Json p prefix found = flat_map (matches_json (groups_of r) prefix) found
shown_by r line Count p prefix found = []
shown_by r line Names p prefix found = []
shown_by r line Nothing p prefix found = []

-- what is written for a match where matches are shown, after what is in front
abbrev pub match_by : Regex → Shown → LinePaint → (prefix : List ℕ) → Run → Match → List ℕ
match_by r Lines p prefix run m = []
match_by r Matches p prefix run m = shown_match p.matched prefix run.text m
match_by r Json p prefix run m = prefix ++ match_json run (groups_of r) m
match_by r Count p prefix run m = []
match_by r Names p prefix run m = []
match_by r Nothing p prefix run m = []

-- the same for the matches in a text
abbrev pub text_by : Regex → Shown → LinePaint → (prefix : List ℕ) → TextMatches → List ℕ
text_by r shown p prefix f = flat_map (match_by r shown p prefix f.run) f.matches

-- the same for the first matches in texts
abbrev pub IsFirstBy : Regex → (texts : List Run) → Shown → LinePaint → (prefix bytes : List ℕ) → Type 0
IsFirstBy r texts shown p prefix bytes = (found : List TextMatches) × AreFirstFound r texts found × (bytes ≡ flat_map (text_by r shown p prefix) found)

-- nothing, or the same
abbrev pub IsPartBy : Regex → (texts : List Run) → Shown → LinePaint → (prefix bytes : List ℕ) → Type 0
IsPartBy r texts shown p prefix bytes = (bytes ≡ []) ⊎ IsFirstBy r texts shown p prefix bytes
