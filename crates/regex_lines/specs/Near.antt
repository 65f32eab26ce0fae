-- What is written for a line that is not selected and near one that is.
use Rattle.std.specs.Prelude.{◌≡◌, ℕ, Bool, true, false, List, [], ◌++◌}
use Rattle.regex_options.specs.Plain.{Job, matching, replacing}
use Rattle.regex_options.specs.declared.task.Shown.{Shown}
use Rattle.regex_options.specs.declared.task.Shown.TheVariants.{Lines, Matches, Json, Count, Names, Nothing}
use Rattle.regress.specs.declared.pattern.Regex.{Regex}
use Rattle.regex_lines.specs.Paint.{LinePaint, Paint, line_paint_in, painted_rest}
use Rattle.regex_lines.specs.Reply.{Shows, ended, texts_of}

-- what is written for a line of which no matches are shown
abbrev pub plain : (line : List ℕ) → Shown → Paint → (prefix : List ℕ) → List ℕ
plain line Lines p prefix = prefix ++ ended (painted_rest p line)
plain line Matches p prefix = []
plain line Json p prefix = []
plain line Count p prefix = []
plain line Names p prefix = []
plain line Nothing p prefix = []

module _ (r : Regex) (line : List ℕ) where
  -- the line as a selected one with its matches, or without them
  abbrev pub ShowsNearBy : (matches : Bool) → Shown → LinePaint → (prefix bytes : List ℕ) → Type 0
  ShowsNearBy true shown p prefix bytes = Shows r line (texts_of line) shown p prefix bytes
  ShowsNearBy false shown p prefix bytes = bytes ≡ plain line shown p.rest prefix

  -- Its matches are shown if those lines are selected that have none.
  abbrev pub ShowsNear : Job → (prefix bytes : List ℕ) → Type 0
  ShowsNear (matching s colors) prefix bytes = ShowsNearBy s.invert s.shown (line_paint_in colors true s.invert) prefix bytes
  ShowsNear (replacing p) prefix bytes = bytes ≡ []
