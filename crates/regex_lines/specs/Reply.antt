-- What is written for a line: the texts in which a pattern is searched, lines, matches, and matches as JSON (RFC 8259).
use Rattle.std.specs.Prelude.{◌≡◌, ℕ, zero, suc, ◌+◌, ◌-◌, Bool, not, List, [], ◌∷◌, ◌++◌, All, drop, if◌then◌else◌, length, map, nat_lt, take, ◌==◌, codes, slice_range, flat_map, Option, Some, None, is_some, ◌||◌, ◌&&◌, ◌↔◌, true, false, IsTrue}
use Rattle.std.specs.Str.{is_utf8}
use Rattle.std.specs.Str.Lossy.{utf8_invalid_len, utf8_valid_len}
use Rattle.std.specs.Fmt.{decimal}
use Rattle.std.specs.List.{Any}
use Rattle.regex_options.specs.Plain.{Job, Replacement, matching, replacing}
use Rattle.regex_options.specs.declared.task.Shown.TheVariants.{Lines, Matches, Json, Count, Names, Nothing}
use Rattle.regex_options.specs.declared.task.Shown.{Shown}
use Rattle.regress.specs.Compiled.{outcomes_of, groups_of, match_of}
use Rattle.regress.specs.Groups.{group_span}
use Rattle.regress.specs.Replaced.{AreFirstMatches, ReplacesAll, ReplacesFirstN}
use Rattle.regress.specs.Searched.{MatchesSomewhere}
use Rattle.regress.specs.declared.pattern.Regex.{Regex}
use Rattle.regress_display.specs.Fault.{json_text}
use Rattle.regress_found.specs.Found.{start_of, state_of}
use Rattle.regress_found.specs.Repeated.{AreAllMatches}
use Rattle.regress_found.specs.declared.found.Match.{Match}
use Rattle.regress_replace.specs.Expansion.{matched_text, expansion}
use Rattle.regress_tree.specs.Steps.{CaptureSpan}
use Rattle.regress_tree.specs.WellFormed.{Capture}
use Rattle.regex_lines.specs.Paint.{LinePaint, Paint, is_colored, line_paint_in, painted, painted_rest, painted_spans, span_in}
use Rattle.regex_lines.specs.declared.runs.Run as code
use Rattle.regex_lines.specs.declared.runs.TextMatches as code_matches
use Rattle.regex_lines.specs.declared.spans.Span.{Span}

-- a text in a line, and the byte offset at which it starts
pub record Run : Type 0 where
  pub start : ℕ
  pub text : List ℕ

-- the run as the code represents it
abbrev pub run_of : code.Run → Run
run_of r = record { start = r.start; text = r.text.now }

-- the text with this offset, unless it is empty
abbrev pub unless_empty : (start : ℕ) → List ℕ → List Run
unless_empty start text = if length text == 0 then [] else record { start = start; text = text } ∷ []

-- the length of the longest UTF-8 text in front, and of the invalid sequence after it
abbrev pub chunk_len : List ℕ → ℕ
chunk_len bytes = utf8_valid_len bytes + utf8_invalid_len (drop (utf8_valid_len bytes) bytes)

-- The maximal runs of UTF-8, without empty ones, in bytes that start at this offset: between them are invalid sequences.
-- There are at most `bound` sequences.
abbrev pub runs_within : (bound start : ℕ) → List ℕ → List Run
runs_within zero start bytes = []
runs_within (suc bound) start [] = []
runs_within (suc bound) start (b ∷ bs) =
    unless_empty start (take (utf8_valid_len (b ∷ bs)) (b ∷ bs))
    ++ runs_within bound (start + chunk_len (b ∷ bs)) (drop (chunk_len (b ∷ bs)) (b ∷ bs))

-- the maximal runs of UTF-8 in a line that are not empty
abbrev pub utf8_runs : (line : List ℕ) → List Run
utf8_runs line = runs_within (length line) 0 line

-- the line as one text
abbrev pub whole : (line : List ℕ) → List Run
whole line = record { start = 0; text = line } ∷ []

-- the line itself, or the runs of a line that is not UTF-8
abbrev pub texts_of : (line : List ℕ) → List Run
texts_of line = if is_utf8 line then whole line else utf8_runs line

-- a text in a line, and all matches in it
pub record TextMatches : Type 0 where
  pub run : Run
  pub matches : List Match

-- these as the code represents them
abbrev pub matches_of : code_matches.TextMatches → TextMatches
matches_of f = record { run = run_of f.run; matches = map match_of f.matches.items }

-- These are the texts, each with all matches of the pattern in it.
pub record AreSearched (r : Regex) (texts : List Run) (found : List TextMatches) : Type 0 where
  pub texts_are : map (λ f. f.run) found ≡ texts
  pub all : All (λ f. AreAllMatches f.run.text (outcomes_of r f.run.text) f.matches) found

-- These are the first matches of the pattern in the texts, in order: all those in the first texts, and the first n in the next.
pub record AreFirstFound (r : Regex) (texts : List Run) (found : List TextMatches) : Type 0 where
  pub done : List Run
  pub next : Run
  pub others : List Run
  pub texts_are : texts ≡ done ++ next ∷ others
  pub before : List TextMatches
  pub searched : AreSearched r done before
  pub n : ℕ
  pub first : List Match
  pub are_first : AreFirstMatches next.text (outcomes_of r next.text) n first
  pub is : found ≡ before ++ record { run = next; matches = first } ∷ []

-- the spans in the line of the matches in a text that are not empty
abbrev pub spans_in : TextMatches → List Span
spans_in f = flat_map (span_in f.run.start) f.matches

-- what is in front of the matches of a line: the name of the input, and the number of the line
abbrev pub json_prefix : (name : List ℕ) → (number : ℕ) → List ℕ
json_prefix name number = codes "{\"file\":\"" ++ json_text name ++ codes "\",\"line\":" ++ decimal number ++ codes ","

-- the members for a text with this span
abbrev pub located_json : (start end : ℕ) → (text : List ℕ) → List ℕ
located_json start end text =
    codes "\"span\":[" ++ decimal start ++ codes "," ++ decimal end ++ codes "],\"text\":\"" ++ json_text text ++ codes "\""

-- the members for a part of a text: its span in bytes of the line, and its text
abbrev pub part_json : Run → Option CaptureSpan → List ℕ
part_json run None = codes "\"span\":null,\"text\":null"
part_json run (Some span) = located_json (run.start + span.0) (run.start + span.1) (slice_range run.text span.0 span.1)

abbrev pub name_json : Option (List ℕ) → List ℕ
name_json None = codes "null"
name_json (Some name) = codes "\"" ++ json_text name ++ codes "\""

-- the object of a group
abbrev pub group_json : Run → (name : Option (List ℕ)) → Option CaptureSpan → List ℕ
group_json run name span = codes "{\"name\":" ++ name_json name ++ codes "," ++ part_json run span ++ codes "}"

abbrev pub comma_before : (number : ℕ) → List ℕ
comma_before number = if number == 0 then [] else codes ","

-- the objects of the groups with these names, the first of which has this number, where they count from 0
abbrev pub groups_json : Run → Match → (number : ℕ) → (names : List (Option (List ℕ))) → List ℕ
groups_json run m number [] = []
groups_json run m number (name ∷ names) =
    comma_before number ++ group_json run name (group_span m (number + 1)) ++ groups_json run m (number + 1) names

-- the members for a match, and for its groups in the order of their numbers, and the end of the object
abbrev pub match_json : Run → (groups : List Capture) → Match → List ℕ
match_json run groups m =
    part_json run (Some (start_of m, (state_of m).position)) ++ codes ",\"groups\":[" ++ groups_json run m 0 (map (λ c. c.name) groups) ++ codes "]}\n"

-- an object for each match in a text, each on a line with what is in front
abbrev pub matches_json : (groups : List Capture) → (prefix : List ℕ) → TextMatches → List ℕ
matches_json groups prefix f = flat_map (λ m. prefix ++ match_json f.run groups m) f.matches

-- the bytes and a line feed
abbrev pub ended : List ℕ → List ℕ
ended bytes = bytes ++ codes "\n"

-- a match that is not empty on a line of its own
abbrev pub shown_match : Paint → (prefix text : List ℕ) → Match → List ℕ
shown_match p prefix text m = if length (matched_text text m) == 0 then [] else prefix ++ ended (painted p (matched_text text m))

-- a line for each match in a text that is not empty
abbrev pub matches_shown : Paint → (prefix : List ℕ) → TextMatches → List ℕ
matches_shown p prefix f = flat_map (shown_match p prefix f.run.text) f.matches

-- The pattern matches somewhere in one of the texts.
abbrev pub MatchesIn : Regex → List Run → Type 0
MatchesIn r texts = Any (λ run. MatchesSomewhere run.text (outcomes_of r run.text)) texts

-- The pattern matches in one of the texts, or with `invert` in none.
abbrev pub IsSelected : Regex → (texts : List Run) → (invert selected : Bool) → Type 0
IsSelected r texts invert selected = (matches : Bool) × (IsTrue matches ↔ MatchesIn r texts) × (selected ≡ (if invert then not matches else matches))

module _ (r : Regex) (line : List ℕ) (texts : List Run) where
  -- what is written for all matches in the texts
  abbrev pub ShowsMatches : (List TextMatches → List ℕ) → (bytes : List ℕ) → Type 0
  ShowsMatches written bytes = (found : List TextMatches) × AreSearched r texts found × (bytes ≡ written found)

  -- the line with what is in front: its matches are looked for if they are in color
  abbrev pub ShowsLine : (matches : Bool) → LinePaint → (prefix bytes : List ℕ) → Type 0
  ShowsLine true p prefix bytes = ShowsMatches (λ found. prefix ++ ended (painted_spans p line 0 (flat_map spans_in found))) bytes
  ShowsLine false p prefix bytes = bytes ≡ prefix ++ ended (painted_rest p.rest line)

  -- what is written for a selected line with these texts, after what is in front
  abbrev pub Shows : Shown → LinePaint → (prefix bytes : List ℕ) → Type 0
  Shows Lines p prefix bytes = ShowsLine (is_colored p.matched) p prefix bytes
  Shows Matches p prefix bytes = ShowsMatches (flat_map (matches_shown p.matched prefix)) bytes
  Shows Json p prefix bytes = ShowsMatches (flat_map (matches_json (groups_of r) prefix)) bytes
  Shows Count p prefix bytes = bytes ≡ []
  Shows Names p prefix bytes = bytes ≡ []
  Shows Nothing p prefix bytes = bytes ≡ []

  -- nothing is written for a line that is not selected
  abbrev pub ShowsIf : (selected : Bool) → Shown → LinePaint → (prefix bytes : List ℕ) → Type 0
  ShowsIf true shown p prefix bytes = Shows shown p prefix bytes
  ShowsIf false shown p prefix bytes = bytes ≡ []

module _ (r : Regex) (texts : List Run) where
  -- what is written for the first matches in the texts
  abbrev pub ShowsFirstMatches : (List TextMatches → List ℕ) → (bytes : List ℕ) → Type 0
  ShowsFirstMatches written bytes = (found : List TextMatches) × AreFirstFound r texts found × (bytes ≡ written found)

  -- the same where matches are shown, after what is in front of each
  abbrev pub ShowsFirst : Shown → LinePaint → (prefix bytes : List ℕ) → Type 0
  ShowsFirst Lines p prefix bytes = ⊥
  ShowsFirst Matches p prefix bytes = ShowsFirstMatches (flat_map (matches_shown p.matched prefix)) bytes
  ShowsFirst Json p prefix bytes = ShowsFirstMatches (flat_map (matches_json (groups_of r) prefix)) bytes
  ShowsFirst Count p prefix bytes = ⊥
  ShowsFirst Names p prefix bytes = ⊥
  ShowsFirst Nothing p prefix bytes = ⊥

-- whether matches are shown
abbrev pub shows_matches : Shown → Bool
shows_matches Lines = false
shows_matches Matches = true
shows_matches Json = true
shows_matches Count = false
shows_matches Names = false
shows_matches Nothing = false

-- whether matches are written as they are found: if only matches of selected lines are shown
abbrev pub writes_matches : Job → Bool
writes_matches (matching s colors) = shows_matches s.shown && (not s.invert && not (is_some s.context))
writes_matches (replacing p) = false

-- a line feed, if there is to be one
abbrev pub feed_if : Bool → List ℕ
feed_if ended = if ended then codes "\n" else []

-- the number, or the limit if that is less
abbrev pub at_most : (limit : Option ℕ) → ℕ → ℕ
at_most None n = n
at_most (Some limit) n = if nat_lt limit n then limit else n

-- how many matches are in texts
abbrev pub match_count : List TextMatches → ℕ
match_count [] = 0
match_count (f ∷ fs) = length f.matches + match_count fs

-- how many matches in the texts are replaced: all, or those up to a limit
abbrev pub IsReplacedCount : Regex → (texts : List Run) → (limit : Option ℕ) → (count : ℕ) → Type 0
IsReplacedCount r texts limit count = (found : List TextMatches) × AreSearched r texts found × (count ≡ at_most limit (match_count found))

-- for how many a line with these texts counts: for the matches that are replaced if these are counted, and else for 1
abbrev pub CountsFor : Regex → (counts : Bool) → (texts : List Run) → (limit : Option ℕ) → (count : ℕ) → Type 0
CountsFor r true texts limit count = IsReplacedCount r texts limit count
CountsFor r false texts limit count = count ≡ 1

-- whether the lines are written: if matches are counted, only to files that are rewritten
abbrev pub writes_lines : Replacement → Bool
writes_lines p = not p.counts || is_some p.in_place

module _ (r : Regex) (template : List ℕ) where
  -- The text with its matches replaced, or with the first ones up to a limit, and how many more may be replaced after it.
  abbrev pub ReplacesUpTo : (limit : Option ℕ) → (text out : List ℕ) → (left : Option ℕ) → Type 0
  ReplacesUpTo None text out left = ReplacesAll text (outcomes_of r text) (λ m. expansion text m (groups_of r) template) out × (left ≡ None)
  ReplacesUpTo (Some n) text out left = (count : ℕ)
      × ReplacesFirstN text (outcomes_of r text) n (λ m. expansion text m (groups_of r) template) out count × (left ≡ Some (n - count))

module _ (r : Regex) (line : List ℕ) where
  -- the line from an offset on, with the matches in these texts replaced, or the first ones up to a limit
  abbrev pub IsReplacedFrom : (template : List ℕ) → (limit : Option ℕ) → (from : ℕ) → List Run → (out : List ℕ) → Type 0
  IsReplacedFrom template limit from [] out = out ≡ drop from line
  IsReplacedFrom template limit from (run ∷ runs) out = (text : List ℕ) × (rest : List ℕ) × (left : Option ℕ)
      × ReplacesUpTo r template limit run.text text left
      × IsReplacedFrom template left (run.start + length run.text) runs rest × (out ≡ slice_range line from run.start ++ (text ++ rest))

  -- the line with the matches in its texts replaced, and a line feed if it has one
  abbrev pub ShowsReplaced : (texts : List Run) → (ended : Bool) → Replacement → (bytes : List ℕ) → Type 0
  ShowsReplaced texts ended p bytes = (out : List ℕ) × IsReplacedFrom p.template p.limit 0 texts out × (bytes ≡ out ++ feed_if ended)

  -- the same, if the line is written
  abbrev pub ShowsReplacedIf : (written : Bool) → (texts : List Run) → (ended : Bool) → Replacement → (bytes : List ℕ) → Type 0
  ShowsReplacedIf true texts ended p bytes = ShowsReplaced texts ended p bytes
  ShowsReplacedIf false texts ended p bytes = bytes ≡ []

  -- Its matches are replaced, or counted, or both.
  abbrev pub Replaces : (texts : List Run) → (ended : Bool) → Replacement → (count : ℕ) → (bytes : List ℕ) → Type 0
  Replaces texts ended p count bytes = CountsFor r p.counts texts p.limit count × ShowsReplacedIf (writes_lines p) texts ended p bytes

  -- Whether the line is selected by these texts, for how many it counts then, and what is written for it.
  abbrev pub IsReplyIn : (texts : List Run) → (ended : Bool) → Job → (prefix : List ℕ) → (selected : Bool) → (count : ℕ) → (bytes : List ℕ) → Type 0
  IsReplyIn texts ended (matching s colors) prefix selected count bytes =
      IsSelected r texts s.invert selected × (count ≡ 1) × ShowsIf r line texts selected s.shown (line_paint_in colors false s.invert) prefix bytes
  IsReplyIn texts ended (replacing p) prefix selected count bytes = (selected ≡ true) × Replaces texts ended p count bytes

  -- the same for the texts of the line
  abbrev pub IsReply : (ended : Bool) → Job → (prefix : List ℕ) → (selected : Bool) → (count : ℕ) → (bytes : List ℕ) → Type 0
  IsReply ended job prefix selected count bytes = IsReplyIn (texts_of line) ended job prefix selected count bytes

  -- what is written for the first matches of the line, if matches are written as they are found
  abbrev pub IsFirstReply : Job → (prefix bytes : List ℕ) → Type 0
  IsFirstReply (matching s colors) prefix bytes =
      (writes_matches (matching s colors) ≡ true) × ShowsFirst r (texts_of line) s.shown (line_paint_in colors false s.invert) prefix bytes
  IsFirstReply (replacing p) prefix bytes = ⊥
