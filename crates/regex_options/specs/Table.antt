-- The tables of commands and of options, and the help.
use Rattle.std.specs.Borrow.{Bor}
use Rattle.std.specs.Prelude.{ℕ, Bool, false, true, not, ◌&&◌, ◌||◌, List, Option, Some, None, ◌==◌, bytes_eq, slice_get, if◌then◌else◌, [], ◌∷◌, ◌++◌}
use Rattle.regex_options.specs.declared.command.Command.TheVariants.{Escape, Pattern}
use Rattle.regex_options.specs.declared.command.Command.{Command}
use Rattle.regex_options.specs.declared.command.CommandEntry.{CommandEntry}
use Rattle.regex_options.specs.declared.command.Operation.TheVariants.{Match, Replace, Split, Parse, Draw, Lint, Explain}
use Rattle.regex_options.specs.declared.help.TheConstants.{HELP_AFTER, HELP_BEFORE, OPTIONS_END, VERSION}
use Rattle.regex_options.specs.declared.help.Topic.TheVariants as topics
use Rattle.regex_options.specs.declared.help.Topic.{Topic}
use Rattle.regex_options.specs.declared.table.OptionEntry.{OptionEntry}
use Rattle.regex_options.specs.declared.table.Scope.{Scope}
use Rattle.regex_options.specs.declared.table.Sets.TheVariants.{Switch, Value}
use Rattle.regex_options.specs.declared.table.Sets.{Sets}

-- the command has the option
abbrev pub has : Scope → Command → Bool
has scope Escape = scope.escaping
has scope (Pattern Match) = scope.matching
has scope (Pattern Replace) = scope.replacing
has scope (Pattern Split) = scope.splitting
has scope (Pattern Parse) = scope.parsing
has scope (Pattern Draw) = scope.drawing
has scope (Pattern Lint) = scope.linting
has scope (Pattern Explain) = scope.explaining

-- no command but `match` has the option
abbrev pub is_of_match_only : Scope → Bool
is_of_match_only s =
    s.matching && not (s.escaping || s.replacing || s.splitting || s.parsing || s.drawing || s.linting || s.explaining)

-- this name is given, and is the other one
abbrev pub is_name : Option (Bor (List ℕ)) → (name : List ℕ) → Bool
is_name None name = false
is_name (Some given) name = bytes_eq given.now name

abbrev pub is_second : Option ℕ → (letter : ℕ) → Bool
is_second None letter = false
is_second (Some found) letter = found == letter

-- this hyphen and letter are given, and it is this letter
abbrev pub is_letter : Option (Bor (List ℕ)) → (letter : ℕ) → Bool
is_letter None letter = false
is_letter (Some short) letter = is_second (slice_get short.now 1) letter

abbrev pub sets_value : Sets → Bool
sets_value (Switch switch) = false
sets_value (Value argument) = true

-- the option has an argument
abbrev pub has_argument : OptionEntry → Bool
has_argument option = sets_value option.sets

-- an option is found, and has an argument
abbrev pub is_valued : Option OptionEntry → Bool
is_valued None = false
is_valued (Some option) = has_argument option

-- the option has this long name
abbrev pub has_long : (name : List ℕ) → OptionEntry → Bool
has_long name option = is_name option.long name

-- the option has this letter
abbrev pub has_letter : (letter : ℕ) → OptionEntry → Bool
has_letter letter option = is_letter option.short letter

-- the command has this name
abbrev pub is_named : (name : List ℕ) → CommandEntry → Bool
is_named name entry = bytes_eq entry.name.now name

-- the summaries of the commands
abbrev pub summaries : List CommandEntry → List ℕ
summaries [] = []
summaries (entry ∷ entries) = entry.summary.now ++ summaries entries

-- the help of the program, by the table of commands
abbrev pub program_help : List CommandEntry → List ℕ
program_help commands = (HELP_BEFORE.now ++ summaries commands) ++ HELP_AFTER.now

-- the lines of the options that the command has
abbrev pub option_lines : Command → List OptionEntry → List ℕ
option_lines command [] = []
option_lines command (option ∷ options) =
    if has option.scope command then option.line.now ++ option_lines command options else option_lines command options

-- the help of a command, by the table of options
abbrev pub command_help : CommandEntry → List OptionEntry → List ℕ
command_help entry options = ((entry.usage.now ++ option_lines entry.command options) ++ OPTIONS_END.now) ++ entry.examples.now

-- what is written about a topic
abbrev pub topic_text : Topic → List ℕ
topic_text (topics.Program commands) = program_help commands.now
topic_text (topics.Command entry options) = command_help entry options.now
topic_text topics.Version = VERSION.now
