-- Plain data: what is done with each line, where the pattern is, and why arguments are invalid.
use Rattle.std.specs.Prelude.{◌≡◌, ⊤, ℕ, Bool, List, [], ◌∷◌, map, Option, Some, None, option_map, Result, Ok, Err, string_bytes}
use Rattle.regex_options.specs.Colors.{Colors, plain_colors}
use Rattle.regex_options.specs.declared.error.ParseError.{ParseError}
use Rattle.regex_options.specs.declared.error.ParseError.TheVariants.{Usage, Memory}
use Rattle.regex_options.specs.declared.error.UsageError as code
use Rattle.regex_options.specs.declared.error.UsageError.TheVariants.{Missing, UnknownCommand, UnknownOption, Invalid, OnlyOfMatch, ExcludedByJson, TextWithoutPage, Unexpected}
use Rattle.regex_options.specs.declared.files.FileList as code_list
use Rattle.regex_options.specs.declared.files.NameGlob as code_glob
use Rattle.regex_options.specs.declared.source.PatternSource.TheVariants.{Text, File}
use Rattle.regex_options.specs.declared.source.PatternSource.{PatternSource}
use Rattle.regex_options.specs.declared.source.Patterns.TheVariants.{Operand, Options}
use Rattle.regex_options.specs.declared.source.Patterns.{Patterns}
use Rattle.regex_options.specs.declared.task.Replacement as code_replacement
use Rattle.regex_options.specs.declared.task.Selection.{Selection}
use Rattle.regex_options.specs.declared.task.Task.TheVariants.{Match, Replace}
use Rattle.regex_options.specs.declared.task.Task.{Task}

-- how matches are replaced: by the expansion of a template, in each line at most this many if there is a limit; whether how
-- many are replaced is shown; and the suffix of the originals if files are rewritten
pub record Replacement : Type 0 where
  pub template : List ℕ
  pub limit : Option ℕ
  pub counts : Bool
  pub in_place : Option (List ℕ)

-- the same as the code represents it
abbrev pub replacement : code_replacement.Replacement → Replacement
replacement r = record { template = r.template.now; limit = r.limit; counts = r.counts; in_place = option_map (λ suffix. suffix.now) r.in_place }

-- selected lines are shown, in these colors if there are any, or matches are replaced
pub data Job : Type 0 where
  matching : Selection → (colors : Option Colors) → Job
  replacing : Replacement → Job

-- the job as the code represents it
abbrev pub job : Task → Job
job (Match s colors) = matching s (option_map (λ c. plain_colors c.now) colors)
job (Replace r) = replacing (replacement r)

-- a pattern, or the name of the file that has patterns
pub data Source : Type 0 where
  in_argument : (text : List ℕ) → Source
  in_file : (name : List ℕ) → Source

-- the source as the code represents it
abbrev pub source : PatternSource → Source
source (Text text) = in_argument text.now
source (File name) = in_file name.now

-- the patterns of a request, as the code represents them
abbrev pub sources : Patterns → List Source
sources (Operand text) = in_argument text.now ∷ []
sources (Options given) = map source given.now

-- a glob for the names of files, and whether files that it matches are searched, or are not
pub record NameGlob : Type 0 where
  pub text : List ℕ
  pub includes : Bool

-- the glob as the code represents it
abbrev pub name_glob : code_glob.NameGlob → NameGlob
name_glob glob = record { text = glob.text.now; includes = glob.includes }

-- the names of files, whether the files below directories are searched, and globs for the names of those that are
pub record FileList : Type 0 where
  pub names : List (List ℕ)
  pub recursive : Bool
  pub globs : List NameGlob

-- the same as the code represents it
abbrev pub file_list : code_list.FileList → FileList
file_list files = record { names = map string_bytes files.names.now; recursive = files.recursive; globs = map name_glob files.globs.now }

-- a missing argument, by its name; an argument that is wrong; or options that exclude or need others
pub data UsageError : Type 0 where
  missing : (name : List ℕ) → UsageError
  unknown_command : (word : List ℕ) → UsageError
  unknown_option : (word : List ℕ) → UsageError
  invalid : (kind word : List ℕ) → UsageError
  only_of_match : (word : List ℕ) → UsageError
  excluded_by_json : UsageError
  text_without_page : UsageError
  unexpected : (word : List ℕ) → UsageError

-- the error as the code represents it
abbrev pub usage_error : code.UsageError → UsageError
usage_error (Missing name) = missing name.now
usage_error (UnknownCommand word) = unknown_command word.now
usage_error (UnknownOption word) = unknown_option word.now
usage_error (Invalid kind word) = invalid kind.now word.now
usage_error (OnlyOfMatch word) = only_of_match word.now
usage_error ExcludedByJson = excluded_by_json
usage_error TextWithoutPage = text_without_page
usage_error (Unexpected word) = unexpected word.now

-- a result as the code represents it
abbrev pub plain_result : {X Y : Type 0} → (X → Y) → Result X code.UsageError → Result Y UsageError
plain_result f (Ok x) = Ok (f x)
plain_result f (Err error) = Err (usage_error error)

-- The result is this one, as the code represents it, unless an allocation failed.
abbrev pub IsParsed : {X Y : Type 0} → (X → Y) → Result X ParseError → Result Y UsageError → Type 0
IsParsed f (Ok x) result = Ok (f x) ≡ result
IsParsed f (Err (Usage error)) result = Err (usage_error error) ≡ result
IsParsed f (Err Memory) result = ⊤

-- the second result, if the first one is no error
abbrev pub on_ok : {X Y : Type 0} → (X → Result Y UsageError) → Result X UsageError → Result Y UsageError
on_ok f (Ok x) = f x
on_ok f (Err error) = Err error

-- the value, or this error
abbrev pub or_error : {X : Type 0} → UsageError → Option X → Result X UsageError
or_error error (Some x) = Ok x
or_error error None = Err error

-- the error, if there is one, else the result
abbrev pub unless_error : {X : Type 0} → Option UsageError → Result X UsageError → Result X UsageError
unless_error (Some error) result = Err error
unless_error None result = result

-- the error that comes first
abbrev pub first_error : Option UsageError → UsageError → UsageError
first_error (Some first) error = first
first_error None error = error
