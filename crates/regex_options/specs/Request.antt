-- The request that the arguments make.
use Rattle.std.specs.Borrow.{Bor}
use Rattle.std.specs.Prelude.{⊤, ℕ, Bool, true, false, not, ◌&&◌, ◌||◌, ◌==◌, List, [], ◌∷◌, find, map, Option, Some, None, Result, Ok, Err, is_some, option_map, if◌then◌else◌, bytes_eq, codes, slice_index, String, string_bytes}
use Rattle.std.specs.declared.alloc.Global.{Global}
use Rattle.regress_base.specs.declared.types.Flags.{Flags}
use Rattle.regress_display.specs.declared.request.Format.{Format}
use Rattle.regress_display.specs.declared.request.Format.TheVariants.{Text, Json, Svg}
use Rattle.regress_display.specs.declared.request.Stage.{Stage}
use Rattle.regress_display.specs.declared.request.Stage.TheVariants as stages
use Rattle.regress_lexer.specs.declared.dialect.Dialect.{Dialect}
use Rattle.regex_options.specs.Table.{command_help, is_named, program_help, topic_text}
use Rattle.regex_options.specs.Colors.{Colors, plain_colors}
use Rattle.regex_options.specs.Given.{Given}
use Rattle.regex_options.specs.Plain.{FileList, Job, Replacement, file_list, job, matching, replacing, Source, in_argument, sources, UsageError, excluded_by_json, missing, on_ok, or_error, text_without_page, unexpected, unknown_command, unknown_option, unless_error}
use Rattle.regex_options.specs.Reading.{Words, options_of, start, words_of}
use Rattle.regex_options.specs.declared.command.Command.{Command}
use Rattle.regex_options.specs.declared.command.Command.TheVariants as commands
use Rattle.regex_options.specs.declared.command.CommandEntry.{CommandEntry}
use Rattle.regex_options.specs.declared.command.Operation.{Operation}
use Rattle.regex_options.specs.declared.command.Operation.TheVariants as operations
use Rattle.regex_options.specs.declared.given.Around.{Around}
use Rattle.regex_options.specs.declared.given.Color.{Color}
use Rattle.regex_options.specs.declared.given.Color.TheVariants as colors
use Rattle.regex_options.specs.declared.given.Options.{Options}
use Rattle.regex_options.specs.declared.request.Action as code_action
use Rattle.regex_options.specs.declared.request.Action.TheVariants.{Search, Show, Lint, Explain}
use Rattle.regex_options.specs.declared.request.Arguments.{Arguments}
use Rattle.regex_options.specs.declared.request.Asked.{Asked}
use Rattle.regex_options.specs.declared.request.Asked.TheVariants.{Help, Escape, Apply}
use Rattle.regex_options.specs.declared.request.Form as code_form
use Rattle.regex_options.specs.declared.request.Form.TheVariants.{Lines, Page}
use Rattle.regex_options.specs.declared.help.TheConstants.{VERSION}
use Rattle.regex_options.specs.declared.request.Output.{Output}
use Rattle.regex_options.specs.declared.request.Parsed as code_parsed
use Rattle.regex_options.specs.declared.request.Parsed.TheVariants.{Topic, Line}
use Rattle.regex_options.specs.declared.request.Request as code
use Rattle.regex_options.specs.declared.request.View.{View}
use Rattle.regex_options.specs.declared.source.PatternForm.{PatternForm}
use Rattle.regex_options.specs.declared.source.Patterns.{Patterns}
use Rattle.regex_options.specs.declared.table.OptionEntry.{OptionEntry}
use Rattle.regex_options.specs.declared.task.Context.{Context}
use Rattle.regex_options.specs.declared.task.InputForm.{InputForm}
use Rattle.regex_options.specs.declared.task.Selection.{Selection}
use Rattle.regex_options.specs.declared.task.Shown.{Shown}
use Rattle.regex_options.specs.declared.task.Shown.TheVariants as shows

-- lines of text, or a page, with the matches in a text if one is given
pub data Form : Type 0 where
  lines : Form
  page : (text : Option (List ℕ)) → Form

-- the form as the code represents it
abbrev pub asked_form : code_form.Form → Form
asked_form Lines = lines
asked_form (Page text) = page (option_map (λ text. text.now) text)

-- What to do with a pattern: a job for the lines of files, or of standard input if there are none; a tree to show, a report
-- on what may match otherwise than in ECMA-262, or an explanation.
pub data Action : Type 0 where
  search : Job → InputForm → FileList → Action
  show : View → Action
  lint : Action
  explain : Form → Action

-- patterns, their flags and dialect, how they are read, and what to do with them
pub record Request : Type 0 where
  pub patterns : List Source
  pub flags : Flags
  pub dialect : Dialect
  pub form : PatternForm
  pub action : Action

-- a text about the program to write, a text to escape, or something to do with a pattern
pub data Ask : Type 0 where
  help : (text : List ℕ) → Ask
  escape : List ℕ → Ask
  apply : Request → Ask

-- the arguments, parsed one by one: a text about the program, or a command and its arguments
pub data Parsed : Type 0 where
  about : (text : List ℕ) → Parsed
  line : CommandEntry → Words → Parsed

-- the same, as the code represents it
abbrev pub parsed_as : code_parsed.Parsed → Parsed
parsed_as (Topic topic) = about (topic_text topic)
parsed_as (Line l) = line l.entry (words_of l.words)

-- what to do with a pattern, as the code represents it
abbrev pub action : code_action.Action → Action
action (Search s) = search (job s.task) s.form (file_list s.files)
action (Show view) = show view
action Lint = lint
action (Explain form) = explain (asked_form form)

-- a request as the code represents it
abbrev pub requested : code.Request → Request
requested r = record { patterns = sources r.patterns; flags = r.flags; dialect = r.dialect; form = r.form; action = action r.action }

-- what the arguments ask for, as the code represents it
abbrev pub ask : Asked → Ask
ask (Help topic) = help (topic_text topic)
ask (Escape text) = escape text.now
ask (Apply r) = apply (requested r)

-- the format of a printed tree
abbrev pub printed_format : (json : Bool) → Format
printed_format json = if json then Json else Text

-- the tree that the options name; without such an option both as text, or the parsed one in another format
abbrev pub stage_of : Option Stage → Format → Stage
stage_of (Some stage) format = stage
stage_of None Text = stages.Both
stage_of None Json = stages.Parsed
stage_of None Svg = stages.Parsed

-- a tree in this format
abbrev pub view_in : Options → Format → View
view_in options format = record { format = format; stage = stage_of options.stage format; small = options.small }

-- whether the output is a terminal with colors, and which colors
pub record Screen : Type 0 where
  pub terminal : Bool
  pub colors : Colors

-- the same, as the code represents it
abbrev pub screen : Output → Screen
screen output = record { terminal = output.terminal; colors = plain_colors output.colors.now }

-- whether the output is in color: by default if it is a terminal
abbrev pub paints : (terminal : Bool) → Option Color → Bool
paints terminal None = terminal
paints terminal (Some colors.Always) = true
paints terminal (Some colors.Never) = false
paints terminal (Some colors.Auto) = terminal

-- the colors, if the output is in color
abbrev pub colors_in : Screen → Option Color → Option Colors
colors_in screen color = if paints screen.terminal color then Some screen.colors else None

-- the number, or this one if there is none
abbrev pub number_or : (default : ℕ) → Option ℕ → ℕ
number_or default None = default
number_or default (Some number) = number

-- How many lines around selected ones are shown, if an option says so: that of a side takes precedence over that of both.
abbrev pub context_by : Around → Option Context
context_by around =
    if is_some around.before || is_some around.after || is_some around.both then
    Some (record {
      before = number_or (number_or 0 around.both) around.before;
      after = number_or (number_or 0 around.both) around.after;
    })
    else None

abbrev pub has_context : Shown → Bool
has_context shows.Lines = true
has_context shows.Matches = true
has_context shows.Json = false
has_context shows.Count = false
has_context shows.Names = false
has_context shows.Nothing = false

-- the same, where lines or matches are shown
abbrev pub context_of : Options → Option Context
context_of options = if has_context options.selection.shown then context_by options.around else None

-- what to show of which lines
abbrev pub selection_of : Options → Selection
selection_of options =
    if options.json then record options.selection { context = context_of options; shown = shows.Json }
    else record options.selection { context = context_of options }

-- how to explain a pattern
abbrev pub form_of : Given → Form
form_of given = if given.options.html then page given.text else lines

-- the files with these names, and which ones are searched
abbrev pub files_of : Words → (names : List (List ℕ)) → FileList
files_of w names = record { names = names; recursive = w.reading.given.options.recursive; globs = w.globs }

-- whether only a number is shown
abbrev pub is_count : Shown → Bool
is_count shows.Lines = false
is_count shows.Matches = false
is_count shows.Json = false
is_count shows.Count = true
is_count shows.Names = false
is_count shows.Nothing = false

-- how `replace` replaces matches with these options
abbrev pub replacement_of : Given → (template : List ℕ) → Replacement
replacement_of given template = record {
  template = template;
  limit = given.options.max_replacements;
  counts = is_count given.options.selection.shown;
  in_place = given.in_place;
}

-- how `split` does
abbrev pub feeds : Replacement
feeds = record { template = codes "\n"; limit = None; counts = false; in_place = None }

-- The files are searched. For `replace` the template is in front of them.
abbrev pub replaced_in : Given → FileList → (names : List (List ℕ)) → Result Action UsageError
replaced_in given rest [] = Err (missing (codes "TEMPLATE"))
replaced_in given rest (template ∷ names) =
    Ok (search (replacing (replacement_of given template)) given.options.input (record rest { names = names }))

abbrev pub replace_of : Given → (rest : FileList) → Result Action UsageError
replace_of given rest = replaced_in given rest rest.names

-- no argument is left
abbrev pub no_more : List (List ℕ) → Result ⊤ UsageError
no_more [] = Ok tt
no_more (more ∷ others) = Err (unexpected more)

-- the action, if no argument is left
abbrev pub alone : Action → List (List ℕ) → Result Action UsageError
alone action args = on_ok (λ _. Ok action) (no_more args)

-- What is done with a pattern, with the operands after the pattern, which may be files: `split` replaces each match by a line
-- feed.
abbrev pub action_of : Screen → Operation → Given → (rest : FileList) → Result Action UsageError
action_of screen operations.Match given rest =
    Ok (search (matching (selection_of given.options) (colors_in screen given.options.color)) given.options.input rest)
action_of screen operations.Replace given rest = replace_of given rest
action_of screen operations.Split given rest = Ok (search (replacing feeds) given.options.input rest)
action_of screen operations.Parse given rest = alone (show (view_in given.options (printed_format given.options.json))) rest.names
action_of screen operations.Draw given rest = alone (show (view_in given.options Svg)) rest.names
action_of screen operations.Lint given rest = alone lint rest.names
action_of screen operations.Explain given rest = alone (explain (form_of given)) rest.names

-- the patterns, and the operands after them, as the code represents them
abbrev pub after_patterns : Patterns × Bor (List (String Global)) → List Source × List (List ℕ)
after_patterns taken = (sources taken.0, map string_bytes taken.1.now)

-- the patterns, and the operands after them: without an option that has one it is the first operand
abbrev pub taken_patterns : List Source → List (List ℕ) → Option (List Source × List (List ℕ))
taken_patterns (pattern ∷ patterns) args = Some (pattern ∷ patterns, args)
taken_patterns [] [] = None
taken_patterns [] (pattern ∷ args) = Some (in_argument pattern ∷ [], args)

-- the request with these options and patterns, for this action
abbrev pub request_for : Options → (patterns : List Source) → Action → Ask
request_for options patterns action = apply (record {
  patterns = patterns;
  flags = options.flags;
  dialect = options.dialect;
  form = options.form;
  action = action;
})

-- the request of an operation, with its arguments
abbrev pub request_of : Screen → Operation → Words → Result Ask UsageError
request_of screen operation w =
    on_ok (λ taken. on_ok (λ action. Ok (request_for w.reading.given.options taken.0 action))
    (action_of screen operation w.reading.given (files_of w taken.1))) (or_error (missing (codes "PATTERN")) (taken_patterns w.patterns w.operands))

abbrev pub is_lines : Shown → Bool
is_lines shows.Lines = true
is_lines shows.Matches = false
is_lines shows.Json = false
is_lines shows.Count = false
is_lines shows.Names = false
is_lines shows.Nothing = false

-- options that select what is shown of lines, or that other lines are shown
abbrev pub excludes_json : Options → Bool
excludes_json options = not (is_lines options.selection.shown) || is_some (context_by options.around)

-- `--json` excludes some options, and a text is for a page
abbrev pub conflict : Given → Option UsageError
conflict given =
    if given.options.json && excludes_json given.options then Some excluded_by_json
    else if is_some given.text && not given.options.html then Some text_without_page
    else None

-- one text
abbrev pub escape_of : List (List ℕ) → Result Ask UsageError
escape_of [] = Err (missing (codes "TEXT"))
escape_of (text ∷ []) = Ok (escape text)
escape_of (text ∷ (more ∷ others)) = Err (unexpected more)

-- what a command asks for with its arguments
abbrev pub command_of : Screen → Command → Words → Result Ask UsageError
command_of screen commands.Escape w = escape_of w.operands
command_of screen (commands.Pattern operation) w = request_of screen operation w

-- the error of a word that is no command
abbrev pub unknown : (word : List ℕ) → UsageError
unknown word = if slice_index word 0 == 45 then unknown_option word else unknown_command word

module _ (options : List OptionEntry) (screen : Screen) where
  -- The help, the version, or what the command asks for, if it has all options and they go together.
  abbrev pub line_interpreted : CommandEntry → Words → Result Ask UsageError
  line_interpreted entry w =
      if w.reading.given.options.help then Ok (help (command_help entry options))
      else if w.reading.given.options.version then Ok (help VERSION.now)
      else unless_error w.reading.denied (unless_error (conflict w.reading.given) (command_of screen entry.command w))

  -- what parsed arguments ask for
  abbrev pub interpreted : Parsed → Result Ask UsageError
  interpreted (about text) = Ok (help text)
  interpreted (line entry w) = line_interpreted entry w

-- `[OPTION..] OPERAND..`, where options and operands may be in any order
abbrev pub line_of : List OptionEntry → CommandEntry → List (String Global) → Result Parsed UsageError
line_of options entry args = on_ok (λ w. Ok (line entry w)) (options_of options entry.command start args)

module _ (commands : List CommandEntry) (options : List OptionEntry) where
  -- the help of the command that was found by this name
  abbrev pub help_found : (name : List ℕ) → Option CommandEntry → Result (List ℕ) UsageError
  help_found name None = Err (unknown_command name)
  help_found name (Some entry) = Ok (command_help entry options)

  -- the help of the program, or of the command with this name
  abbrev pub help_of : List (String Global) → Result (List ℕ) UsageError
  help_of [] = Ok (program_help commands)
  help_of (name ∷ []) = help_found (string_bytes name) (find (is_named (string_bytes name)) commands)
  help_of (name ∷ (more ∷ others)) = Err (unexpected (string_bytes more))

  -- the text that a word which is no command asks for with its arguments
  abbrev pub topic_of : (word : List ℕ) → List (String Global) → Result (List ℕ) UsageError
  topic_of word args =
      if bytes_eq word (codes "help") then help_of args
      else if bytes_eq word (codes "--help") || bytes_eq word (codes "-h") then on_ok (λ _. Ok (program_help commands)) (no_more (map string_bytes args))
      else if bytes_eq word (codes "--version") || bytes_eq word (codes "-V") then on_ok (λ _. Ok VERSION.now) (no_more (map string_bytes args))
      else Err (unknown word)

  -- the arguments after a word, which may be the name of this command
  abbrev pub parsed_after : Option CommandEntry → (word : List ℕ) → List (String Global) → Result Parsed UsageError
  parsed_after (Some entry) word args = line_of options entry args
  parsed_after None word args = on_ok (λ text. Ok (about text)) (topic_of word args)

  -- a command and its arguments, by the tables of commands and options
  abbrev pub parsed_of : List (String Global) → Result Parsed UsageError
  parsed_of [] = Err (missing (codes "COMMAND"))
  parsed_of (first ∷ rest) = parsed_after (find (is_named (string_bytes first)) commands) (string_bytes first) rest

abbrev pub parsed_by : Arguments → Result Parsed UsageError
parsed_by arguments = parsed_of arguments.commands.now arguments.options.now arguments.words.now

-- What the arguments of the program ask for. The first of their errors by themselves comes before any that they have
-- together.
abbrev pub asked_by : Arguments → Result Ask UsageError
asked_by arguments = on_ok (interpreted arguments.options.now (screen arguments.output)) (parsed_by arguments)
