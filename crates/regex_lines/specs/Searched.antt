-- What is written for an input, and for all inputs.
use Rattle.std.specs.Prelude.{⊤, ℕ, Bool, List, ◌≡◌, ◌-◌, true, false, [], ◌∷◌, ◌++◌, length, take, drop, slice_index, if◌then◌else◌, ◌==◌, Option, IfSome, is_some, ◌⊎◌, ◌+◌, ◌<◌, ◌&&◌, ◌||◌, Some, None, bytes_eq, codes, nat_le, nat_lt}
use Rattle.std.specs.List.{FoldsTo}
use Rattle.std.specs.Fmt.{decimal}
use Rattle.std.specs.Str.{IsUtf8}
use Rattle.std.specs.Io.KnownBytes.{Appends}
use Rattle.regex_options.specs.Colors.{Colors}
use Rattle.regex_options.specs.Plain.{Job, matching, replacing}
use Rattle.regex_options.specs.declared.task.Context.{Context}
use Rattle.regex_options.specs.declared.task.Encoding.{Encoding}
use Rattle.regex_options.specs.declared.task.Encoding.TheVariants.{Bytes, Utf8}
use Rattle.regex_options.specs.declared.task.InputForm.{InputForm}
use Rattle.regex_options.specs.declared.task.FileNames.TheVariants.{IfSeveral, Always, Never}
use Rattle.regex_options.specs.declared.task.FileNames.{FileNames}
use Rattle.regex_options.specs.declared.task.Shown.TheVariants.{Lines, Matches, Json, Count, Names, Nothing}
use Rattle.regex_options.specs.declared.task.Shown.{Shown}
use Rattle.regress.specs.declared.pattern.Regex.{Regex}
use Rattle.regress_arguments.specs.Output.{Took}
use Rattle.regex_lines.specs.Near.{ShowsNear}
use Rattle.regex_lines.specs.Paint.{paint_in, painted}
use Rattle.regex_lines.specs.Reply.{IsFirstReply, IsReply, ended, json_prefix}
use Rattle.regex_lines.specs.Unread.{IsAdded, Unread}
use Rattle.regex_lines.specs.declared.paint.Part.TheVariants.{Name, Number, Separator}
use Rattle.regex_lines.specs.declared.place.Place.{Place}

-- the name of an input, whether it is shown in front of each line, whether a zero byte is after it, whether the input is one
-- line, what its lines are, and whether a line of an earlier input is selected
pub record Named : Type 0 where
  pub name : List ℕ
  pub in_front : Bool
  pub null : Bool
  pub multiline : Bool
  pub encoding : Encoding
  pub follows : Bool

-- `-` is standard input.
abbrev pub is_standard : (file : List ℕ) → Bool
is_standard file = bytes_eq file (codes "-")

-- what an input is called
abbrev pub input_name : (file : List ℕ) → List ℕ
input_name file = if is_standard file then codes "(standard input)" else file

-- the same as the code represents it
abbrev pub named : Place → Named
named place = record {
  name = input_name place.file.now;
  in_front = place.in_front;
  null = place.null;
  multiline = place.form.multiline;
  encoding = place.form.encoding;
  follows = place.follows;
}

-- the bytes end with a line feed
abbrev pub has_line_feed : List ℕ → Bool
has_line_feed bytes = slice_index bytes (length bytes - 1) == 10

-- the bytes without a line feed at their end
abbrev pub without_line_feed : List ℕ → List ℕ
without_line_feed bytes = if has_line_feed bytes then take (length bytes - 1) bytes else bytes

-- A line may be searched: with UTF-8 as the encoding it is UTF-8.
abbrev pub IsAccepted : Encoding → (line : List ℕ) → Type 0
IsAccepted Bytes line = ⊤
IsAccepted Utf8 line = IsUtf8 line

-- a line without its line feed, and whether a line feed ends it
pub record Line : Type 0 where
  pub bytes : List ℕ
  pub ended : Bool

-- the lines, with one byte more in front of the first one
abbrev pub onto_line : ℕ → List Line → List Line
onto_line b [] = record { bytes = b ∷ []; ended = false } ∷ []
onto_line b (line ∷ lines) = record { bytes = b ∷ line.bytes; ended = line.ended } ∷ lines

-- The lines. The last one may lack a line feed.
abbrev pub lines_of : List ℕ → List Line
lines_of [] = []
lines_of (b ∷ bs) = if b == 10 then record { bytes = []; ended = true } ∷ lines_of bs else onto_line b (lines_of bs)

-- A text as one line. An empty text has no line.
abbrev pub one_line : List ℕ → List Line
one_line [] = []
one_line (b ∷ bs) = record { bytes = without_line_feed (b ∷ bs); ended = has_line_feed (b ∷ bs) } ∷ []

-- the lines, or with `multiline` one
abbrev pub split_text : (multiline : Bool) → List ℕ → List Line
split_text true text = one_line text
split_text false text = lines_of text

-- The first lines of an input, whose bytes may be known: all of them if it was read to its end.
pub record AreLinesOf (multiline : Bool) (input : Option (List ℕ)) (ended : Bool) (lines : List Line) : Type 0 where
  pub text : List ℕ
  pub known : IfSome input (λ known. text ≡ known)
  pub others : List Line
  pub whole : split_text multiline text ≡ lines ++ others
  pub all : ended ≡ true → others ≡ []

-- how far an input is searched: the number of lines, the number of selected lines, or of matches if these are counted, how
-- many of the next lines are shown after the last selected one, the lines since the last one that is shown, and what was
-- written
pub record Progress : Type 0 where
  pub lines : ℕ
  pub selected : ℕ
  pub due : ℕ
  pub hidden : List (List ℕ)
  pub written : List ℕ

-- what is printed of the lines: nothing if they are written to a file
abbrev pub is_in_place : Job → Bool
is_in_place (matching s colors) = false
is_in_place (replacing p) = is_some p.in_place

abbrev pub printed : Job → Progress → List ℕ
printed job p = if is_in_place job then [] else p.written

abbrev pub at_start : Progress
at_start = record { lines = 0; selected = 0; due = 0; hidden = []; written = [] }

-- the number is not below the limit, if there is one
abbrev pub reaches : (limit : Option ℕ) → ℕ → Bool
reaches None n = false
reaches (Some limit) n = nat_le limit n

-- whether lines are numbered
abbrev pub has_numbers : Job → Bool
has_numbers (matching s colors) = s.numbers
has_numbers (replacing p) = false

-- the colors, if there are any
abbrev pub colors_of : Job → Option Colors
colors_of (matching s colors) = colors
colors_of (replacing p) = None

-- the name of an input and what is after it: this, or a zero byte in place of it
abbrev pub name_with : Option Colors → Named → (after : List ℕ) → List ℕ
name_with colors place after = painted (paint_in colors Name) place.name ++ (if place.null then 0 ∷ [] else after)

-- the name of the input and what is after it, if it is shown in front
abbrev pub name_of : Option Colors → Named → (mark : List ℕ) → List ℕ
name_of colors place mark = if place.in_front then name_with colors place mark else []

-- what is after the name of an input and the number of a line, which may be near a selected one
abbrev pub mark_of : Option Colors → (near : Bool) → List ℕ
mark_of colors near = painted (paint_in colors Separator) (if near then codes "-" else codes ":")

-- what is shown does not depend on lines after the first selected one
abbrev pub needs_one : Shown → Bool
needs_one Lines = false
needs_one Matches = false
needs_one Json = false
needs_one Count = false
needs_one Names = true
needs_one Nothing = true

-- this many lines of an input are enough
abbrev pub is_enough : Job → (selected : ℕ) → Bool
is_enough (matching s colors) selected = reaches s.max_count selected || (needs_one s.shown && nat_lt 0 selected)
is_enough (replacing p) selected = false

-- whether matches are shown as JSON
abbrev pub is_json : Shown → Bool
is_json Lines = false
is_json Matches = false
is_json Json = true
is_json Count = false
is_json Names = false
is_json Nothing = false

abbrev pub shows_json : Job → Bool
shows_json (matching s colors) = is_json s.shown
shows_json (replacing p) = false

-- the number of a line and what is after it
abbrev pub number_with : Option Colors → (number : ℕ) → (mark : List ℕ) → List ℕ
number_with colors number mark = painted (paint_in colors Number) (decimal number) ++ mark

-- what is in front of a line as text: the name of the input and the number of the line, if they are shown
abbrev pub text_prefix : (near : Bool) → Job → Named → (number : ℕ) → List ℕ
text_prefix near job place number =
    let colors = colors_of job in
    let mark = mark_of colors near in
    name_of colors place mark ++ (if has_numbers job then number_with colors number mark else [])

-- what is in front of what is shown of the line with this number, which may be near a selected one
abbrev pub prefix_of : (near : Bool) → Job → Named → (number : ℕ) → List ℕ
prefix_of near job place number = if shows_json job then json_prefix place.name number else text_prefix near job place number

-- what is written at the end of an input for the number of selected lines
abbrev pub shown_at_end : Shown → Option Colors → Named → (selected : ℕ) → List ℕ
shown_at_end Lines colors place selected = []
shown_at_end Matches colors place selected = []
shown_at_end Json colors place selected = []
shown_at_end Count colors place selected = name_of colors place (mark_of colors false) ++ ended (decimal selected)
shown_at_end Names colors place selected = if nat_lt 0 selected then name_with colors place (codes "\n") else []
shown_at_end Nothing colors place selected = []

-- what is written at the end of an input; for `replace` the number of matches, if they are counted
abbrev pub written_at_end : Job → Named → (selected : ℕ) → List ℕ
written_at_end (matching s colors) place selected = shown_at_end s.shown colors place selected
written_at_end (replacing p) place selected = if p.counts then shown_at_end Count None place selected else []

-- how many lines around selected ones are shown
abbrev pub context_of : Job → Option Context
context_of (matching s colors) = s.context
context_of (replacing p) = None

abbrev pub lines_before : Option Context → ℕ
lines_before None = 0
lines_before (Some context) = context.before

abbrev pub lines_after : Option Context → ℕ
lines_after None = 0
lines_after (Some context) = context.after

-- the last lines, at most this many
abbrev pub last_of : (count : ℕ) → List (List ℕ) → List (List ℕ)
last_of count lines = drop (length lines - count) lines

-- the line between lines that are not adjacent, if lines around selected ones are shown
abbrev pub separator : Option Colors → Option Context → List ℕ
separator colors None = []
separator colors (Some context) = ended (painted (paint_in colors Separator) (codes "--"))

-- Lines are left out between those that are shown so far, also of earlier inputs, and those before the next selected one.
abbrev pub is_apart : Job → Named → Progress → Bool
is_apart job place p = if p.selected == 0 then place.follows else nat_lt (lines_before (context_of job)) (length p.hidden)

-- enough lines are selected, and those after the last of them are shown
abbrev pub is_over : Job → (selected due : ℕ) → Bool
is_over job selected due = is_enough job selected && (due == 0)

module _ (r : Regex) (job : Job) (place : Named) where
  -- what is written for a line with this number that is near a selected one
  abbrev pub IsNear : (number : ℕ) → (line : List ℕ) → (bytes : List ℕ) → Type 0
  IsNear number line bytes = ShowsNear r line job (prefix_of true job place number) bytes

  -- one line further
  abbrev pub IsNearStep : ℕ × List ℕ → (line : List ℕ) → ℕ × List ℕ → Type 0
  IsNearStep before line after = (bytes : List ℕ) × IsNear before.0 line bytes × (after ≡ (before.0 + 1, before.1 ++ bytes))

  -- what is written for lines near a selected one, where the first has this number
  abbrev pub AreNear : (number : ℕ) → List (List ℕ) → (bytes : List ℕ) → Type 0
  AreNear number lines bytes = FoldsTo IsNearStep (number, []) lines (number + length lines, bytes)

  -- A line that is selected is shown after the last lines before it that are hidden so far.
  pub record IsSelectedLine (p : Progress) (count : ℕ) (bytes : List ℕ) (q : Progress) : Type 0 where
    pub before : List ℕ
    pub near : let lines = last_of (lines_before (context_of job)) p.hidden in AreNear (p.lines + 1 - length lines) lines before
    pub apart : List ℕ
    pub apart_is : apart ≡ (if is_apart job place p then separator (colors_of job) (context_of job) else [])
    pub next : q ≡ record {
      lines = p.lines + 1;
      selected = p.selected + count;
      due = lines_after (context_of job);
      hidden = [];
      written = p.written ++ (apart ++ (before ++ bytes));
    }

  -- Another line is shown if it is one of those after a selected one.
  abbrev pub IsOtherLine : Progress → (line : List ℕ) → Progress → Type 0
  IsOtherLine p line q =
      ((0 < p.due) × ((bytes : List ℕ) × IsNear (p.lines + 1) line bytes
      × (q ≡ record p { lines = p.lines + 1; due = p.due - 1; written = p.written ++ bytes })))
      ⊎ ((p.due ≡ 0) × (q ≡ record p { lines = p.lines + 1; hidden = p.hidden ++ line ∷ [] }))

  -- Whether a line is selected, for how many it counts, and what is written for it then: it is not once enough lines are.
  abbrev pub IsFound : (enough : Bool) → (number : ℕ) → Line → (selected : Bool) → (count : ℕ) → (bytes : List ℕ) → Type 0
  IsFound true number line selected count bytes = selected ≡ false
  IsFound false number line selected count bytes =
      IsReply r line.bytes line.ended job (prefix_of false job place number) selected count bytes

  -- nothing, or what is written for the first matches of the line with this number, if matches are written as they are found
  abbrev pub IsFirstOrNone : (number : ℕ) → (line bytes : List ℕ) → Type 0
  IsFirstOrNone number line bytes = (bytes ≡ []) ⊎ IsFirstReply r line job (prefix_of false job place number) bytes

  -- What is written for a line with this number of which the search fails.
  abbrev pub IsBegunLine : (enough : Bool) → (number : ℕ) → Line → (bytes : List ℕ) → Type 0
  IsBegunLine true number line bytes = bytes ≡ []
  IsBegunLine false number line bytes = (bytes ≡ []) ⊎ (IsAccepted place.encoding line.bytes × IsFirstReply r line.bytes job (prefix_of false job place number) bytes)

  -- One line further.
  abbrev pub IsShownLine : (selected : Bool) → Progress → (line : List ℕ) → (count : ℕ) → (bytes : List ℕ) → Progress → Type 0
  IsShownLine true p line count bytes q = IsSelectedLine p count bytes q
  IsShownLine false p line count bytes q = IsOtherLine p line q

  -- One line further, and it is searched unless enough lines are selected.
  pub record IsSearchedLine (p : Progress) (line : Line) (q : Progress) : Type 0 where
    pub accepted : IsAccepted place.encoding line.bytes
    pub selected : Bool
    pub count : ℕ
    pub bytes : List ℕ
    pub found : IsFound (is_enough job p.selected) (p.lines + 1) line selected count bytes
    pub shown : IsShownLine selected p line.bytes count bytes q

module _ (r : Regex) (job : Job) where
  -- One line further: the line is passed over if enough lines are selected before it, and those after them are shown.
  pub record IsStep (place : Named) (p : Progress) (line : Line) (q : Progress) : Type 0 where
    pub passed : is_over job p.selected p.due ≡ true → q ≡ p
    pub searched : is_over job p.selected p.due ≡ false → IsSearchedLine r job place p line q

  -- The lines of an input were searched in order: all of them, or the first ones.
  pub record IsSearched (place : Named) (input : Option (List ℕ)) (all : Bool) (p : Progress) : Type 0 where
    pub lines : List Line
    pub are : AreLinesOf place.multiline input all lines
    pub steps : FoldsTo (IsStep place) at_start lines p

  -- all lines of an input were searched, this many are selected, and their output was written
  abbrev pub SearchesAll : Named → (input old new : Option (List ℕ)) → (selected : ℕ) → Type 0
  SearchesAll place input old new selected =
      (p : Progress) × IsSearched place input true p × (p.selected ≡ selected) × Appends old new p.written

  -- the same, whatever was written
  abbrev pub SearchesLines : Named → (input : Option (List ℕ)) → (selected : ℕ) → Type 0
  SearchesLines place input selected = (p : Progress) × IsSearched place input true p × (p.selected ≡ selected)

  -- the first lines of an input were searched
  abbrev pub SearchesFirst : Named → (input old new : Option (List ℕ)) → Type 0
  SearchesFirst place input old new = (p : Progress) × IsSearched place input false p × Appends old new p.written

  -- the first lines of an input were searched, and what is printed of them was written
  abbrev pub PrintsLines : Named → (input old new : Option (List ℕ)) → Type 0
  PrintsLines place input old new = (p : Progress) × IsSearched place input false p × Appends old new (printed job p)

  -- The first lines of an input were searched in order, and the search of the next one failed, for which this was written.
  pub record IsSearchedInto (place : Named) (input : Option (List ℕ)) (p : Progress) (more : List ℕ) : Type 0 where
    pub lines : List Line
    pub next : Line
    pub are : AreLinesOf place.multiline input false (lines ++ next ∷ [])
    pub steps : FoldsTo (IsStep place) at_start lines p
    pub begun : IsBegunLine r job place (is_enough job p.selected) (p.lines + 1) next more

  -- The first lines of an input were searched, and nothing was written for the next one, or the search of the next one failed.
  abbrev pub IsSearchedTo : Named → (input : Option (List ℕ)) → Progress → (more : List ℕ) → Type 0
  IsSearchedTo place input p more = (IsSearched place input false p × (more ≡ [])) ⊎ IsSearchedInto place input p more

  -- a part of an input was searched, and its output was written
  abbrev pub SearchesPart : Named → (input old new : Option (List ℕ)) → Type 0
  SearchesPart place input old new = (p : Progress) × (more : List ℕ) × IsSearchedTo place input p more × Appends old new (p.written ++ more)

  -- what is printed for a part of an input
  pub record IsPrintedPart (place : Named) (input : Option (List ℕ)) (bytes : List ℕ) : Type 0 where
    pub progress : Progress
    pub more : List ℕ
    pub searched : IsSearchedTo place input progress more
    pub is : bytes ≡ printed job progress ++ more

  abbrev pub PrintsPart : Named → (input old new : Option (List ℕ)) → Type 0
  PrintsPart place input old new = Took old new (IsPrintedPart place input)

-- an input: its name, and its bytes if they are known
abbrev pub Input : Type 0
Input = Named × Option (List ℕ)

-- The bytes of an input, if they are known, where standard input has these left. Nothing is known of those of a file.
abbrev pub bytes_of : (file : List ℕ) → (left : Option (List ℕ)) → Option (List ℕ)
bytes_of file left = if is_standard file then left else None

-- what standard input has left after an input: it is read once
abbrev pub left_after : (file : List ℕ) → (left : Option (List ℕ)) → Option (List ℕ)
left_after file left = if is_standard file then Some [] else left

module _ (place : (file : List ℕ) → Named) where
  -- the inputs with these names, in order
  abbrev pub named_inputs : (files : List (List ℕ)) → (left : Option (List ℕ)) → List Input
  named_inputs [] left = []
  named_inputs (file ∷ files) left = (place file, bytes_of file left) ∷ named_inputs files (left_after file left)

-- whether names are in front of lines: `several` states whether they are by default
abbrev pub are_in_front : FileNames → (several : Bool) → Bool
are_in_front IfSeveral several = several
are_in_front Always several = true
are_in_front Never several = false

-- The same, where lines that are replaced have nothing in front.
abbrev pub shows_names : Job → (several : Bool) → Bool
shows_names (matching s colors) several = are_in_front s.file_names several
shows_names (replacing p) several = p.counts && several

-- whether zero bytes are after names
abbrev pub has_nulls : Job → Bool
has_nulls (matching s colors) = s.null
has_nulls (replacing p) = false

-- how an input is shown
abbrev pub place_of : Job → InputForm → (several : Bool) → (file : List ℕ) → Named
place_of job form several file = record {
  name = input_name file;
  in_front = shows_names job several;
  null = has_nulls job;
  multiline = form.multiline;
  encoding = form.encoding;
  follows = false;
}

-- the same after other inputs, of which a line may be selected
abbrev pub following : (any : Bool) → Named → Named
following any place = record place { follows = any }

-- the files, as they are shown
abbrev pub inputs_of : Job → InputForm → (several : Bool) → (files : List (List ℕ)) → (input : Option (List ℕ)) → List Input
inputs_of job form several files input = named_inputs (place_of job form several) files input

-- whether a line was selected, which inputs were not read, and what was written
pub record Result : Type 0 where
  pub any : Bool
  pub unread : List Unread
  pub written : List ℕ

abbrev pub nothing : Result
nothing = record { any = false; unread = []; written = [] }

abbrev pub is_nothing : Shown → Bool
is_nothing Lines = false
is_nothing Matches = false
is_nothing Json = false
is_nothing Count = false
is_nothing Names = false
is_nothing Nothing = true

-- No line is to be selected; or one is, and nothing is shown.
abbrev pub has_ended : Job → (any : Bool) → Bool
has_ended (matching s colors) any = reaches s.max_count 0 || (any && is_nothing s.shown)
has_ended (replacing p) any = false

module _ (r : Regex) (job : Job) where
  -- what is printed for an input: what its lines yield, and what is shown at its end
  pub record IsWritten (place : Named) (input : Option (List ℕ)) (any : Bool) (bytes : List ℕ) : Type 0 where
    pub progress : Progress
    pub searched : IsSearched r job place input true progress
    pub some : any ≡ nat_lt 0 progress.selected
    pub is : bytes ≡ printed job progress ++ written_at_end job place progress.selected

  abbrev pub WritesInput : Named → (input old new : Option (List ℕ)) → (any : Bool) → Type 0
  WritesInput place input old new any = Took old new (IsWritten place input any)

  -- An input was searched, or else its first lines, as it could not be read further. Then it is added to those that were
  -- not read.
  abbrev pub AddsInput : Named → (input old new : Option (List ℕ)) → (unread_old unread_new : List Unread) → (any : Bool) → Type 0
  AddsInput place input old new unread_old unread_new any =
      (WritesInput place input old new any × (unread_new ≡ unread_old))
      ⊎ (PrintsLines r job place input old new × IsAdded place.name unread_old unread_new × (any ≡ false))

  -- One input further, and it is searched.
  pub record IsSearchedInput (before : Result) (input : Input) (after : Result) : Type 0 where
    pub any : Bool
    pub bytes : List ℕ
    pub written : IsWritten (following before.any input.0) input.1 any bytes
    pub next : after ≡ record { any = before.any || any; unread = before.unread; written = before.written ++ bytes }

  -- One input further, and only its first lines are searched, as it cannot be read further.
  pub record IsUnreadInput (before : Result) (input : Input) (after : Result) : Type 0 where
    pub progress : Progress
    pub searched : IsSearched r job (following before.any input.0) input.1 false progress
    pub unread : List Unread
    pub added : IsAdded input.0.name before.unread unread
    pub next : after ≡ record { any = before.any; unread = unread; written = before.written ++ printed job progress }

  -- One input further: it is passed over if the search ended before it.
  pub record IsInputStep (before : Result) (input : Input) (after : Result) : Type 0 where
    pub passed : has_ended job before.any ≡ true → after ≡ before
    pub searched : has_ended job before.any ≡ false → IsSearchedInput before input after ⊎ IsUnreadInput before input after

  -- all inputs in order
  abbrev pub WritesInputs : List Input → (old new : Option (List ℕ)) → List Unread → (any : Bool) → Type 0
  WritesInputs inputs old new unread any =
      (bytes : List ℕ) × FoldsTo IsInputStep nothing inputs (record { any = any; unread = unread; written = bytes }) × Appends old new bytes

  -- what is written for a part of the first input, if there is one
  abbrev pub IsBegun : (any : Bool) → List Input → (bytes : List ℕ) → Type 0
  IsBegun any [] bytes = bytes ≡ []
  IsBegun any (input ∷ others) bytes = IsPrintedPart r job (following any input.0) input.1 bytes

  -- what is written for the first inputs, of which these were not read, and a part of the next one
  pub record IsFirst (inputs : List Input) (unread : List Unread) (bytes : List ℕ) : Type 0 where
    pub before : List Input
    pub others : List Input
    pub parts : inputs ≡ before ++ others
    pub result : Result
    pub steps : FoldsTo IsInputStep nothing before result
    pub unread_are : result.unread ≡ unread
    pub more : List ℕ
    pub begun : IsBegun result.any others more
    pub is : bytes ≡ result.written ++ more

  abbrev pub WritesSomeOf : List Input → (old new : Option (List ℕ)) → List Unread → Type 0
  WritesSomeOf inputs old new unread = Took old new (IsFirst inputs unread)
