-- The options, by the table.
use Rattle.std.specs.Borrow.{Bor}
use Rattle.std.specs.Prelude.{ℕ, Bool, not, ◌&&◌, List, [], ◌∷◌, Option, Some, None, ◌++◌, map, option_map, if◌then◌else◌, ◌==◌, bytes_eq, codes, drop, find, is_none, length, nat_lt, slice_index, Result, Ok, Err, String, string_bytes}
use Rattle.std.specs.List.{starts_with}
use Rattle.std.specs.declared.alloc.Global.{Global}
use Rattle.regex_options.specs.Assignment.{name_and_value}
use Rattle.regex_options.specs.Given.{Given, given_by, nothing_given, switched, valued}
use Rattle.regex_options.specs.Table.{has, has_letter, has_long, is_of_match_only, is_valued}
use Rattle.regex_options.specs.Plain.{NameGlob, Source, UsageError, first_error, invalid, missing, name_glob, on_ok, only_of_match, or_error, source, unknown_option, usage_error}
use Rattle.regex_options.specs.declared.command.Command.{Command}
use Rattle.regex_options.specs.declared.reading.Reading as code
use Rattle.regex_options.specs.declared.reading.Words as code_words
use Rattle.regex_options.specs.declared.table.Argument.{Argument}
use Rattle.regex_options.specs.declared.table.OptionEntry.{OptionEntry}
use Rattle.regex_options.specs.declared.table.Scope.{Scope}
use Rattle.regex_options.specs.declared.table.Sets.{Sets}
use Rattle.regex_options.specs.declared.table.Sets.TheVariants as sets
use Rattle.regex_options.specs.declared.table.Switch.{Switch}

-- What the options up to some point specify, the error of the first one that the command lacks, and what the next
-- argument is if it belongs to the last option.
pub record Reading : Type 0 where
  pub given : Given
  pub denied : Option UsageError
  pub awaits : Option Argument

-- the same, as the code represents it
abbrev pub reading_of : code.Reading → Reading
reading_of r = record { given = given_by r.given; denied = option_map usage_error r.denied; awaits = r.awaits }

-- What the arguments up to some point are: what the options specify, the patterns and the globs that options have, and the
-- operands, which are the arguments that are neither options nor belong to one.
pub record Words : Type 0 where
  pub reading : Reading
  pub patterns : List Source
  pub globs : List NameGlob
  pub operands : List (List ℕ)

abbrev pub start : Words
start = record { reading = record { given = nothing_given; denied = None; awaits = None }; patterns = []; globs = []; operands = [] }

-- the same, as the code represents it
abbrev pub words_of : code_words.Words → Words
words_of w = record {
  reading = reading_of w.reading;
  patterns = map source w.patterns.items;
  globs = map name_glob w.globs.items;
  operands = map string_bytes w.operands.items;
}

-- the item, if there is one
abbrev pub listed : {X : Type 0} → Option X → List X
listed None = []
listed (Some x) = x ∷ []

-- the pattern and the glob of the last option are forgotten
abbrev pub without_lists : Reading → Reading
without_lists r = record r { given = record r.given { pattern = None; glob = None } }

abbrev pub with_operands : List (List ℕ) → Words → Words
with_operands operands w = record w { operands = w.operands ++ operands }

-- the words with this reading, and the pattern or glob of its last option
abbrev pub with_reading : Words → Reading → Words
with_reading w r = record {
  reading = without_lists r;
  patterns = w.patterns ++ listed r.given.pattern;
  globs = w.globs ++ listed r.given.glob;
  operands = w.operands;
}

-- the error of an option of this argument that the command lacks
abbrev pub lacked : Scope → (word : List ℕ) → UsageError
lacked scope word = if is_of_match_only scope then only_of_match word else unknown_option word

-- the error is noted if the command lacks the option
abbrev pub noted : Command → Scope → (word : List ℕ) → Reading → Reading
noted command scope word r =
    if has scope command then r else record r { denied = Some (first_error r.denied (lacked scope word)) }

abbrev pub with_switch : Switch → Reading → Reading
with_switch switch r = record r { given = record r.given { options = switched switch r.given.options } }

-- the argument of an option, which is in this word
abbrev pub with_value : Argument → (text word : List ℕ) → Reading → Result Reading UsageError
with_value argument text word r =
    or_error (invalid argument.kind.now word)
    (option_map (λ given. record { given = given; denied = r.denied; awaits = None }) (valued argument.value text r.given))

-- An option of this word whose argument is not in the word. Without a default the next word is the argument.
abbrev pub without_value : Argument → (default : Option (Bor (List ℕ))) → (word : List ℕ) → Reading → Result Reading UsageError
without_value argument None word r = Ok (record r { awaits = Some argument })
without_value argument (Some text) word r = with_value argument text.now word r

-- an option of this word, with its argument if the word has that
abbrev pub used : (word : List ℕ) → Sets → (value : Option (List ℕ)) → Reading → Result Reading UsageError
used word (sets.Switch switch) None r = Ok (with_switch switch r)
used word (sets.Switch switch) (Some text) r = Err (unknown_option word)
used word (sets.Value argument) None r = without_value argument argument.default word r
used word (sets.Value argument) (Some text) r = with_value argument text word r

-- the text, unless it is empty
abbrev pub unless_empty : List ℕ → Option (List ℕ)
unless_empty text = if length text == 0 then None else Some text

-- the word without the hyphen in front
abbrev pub letters_of : (word : List ℕ) → List ℕ
letters_of word = if starts_with (λ b c. b == c) word (codes "-") then drop 1 word else word

-- a hyphen, and more
abbrev pub is_option : List ℕ → Bool
is_option word = slice_index word 0 == 45 && not (bytes_eq word (codes "-"))

module _ (options : List OptionEntry) (command : Command) (word : List ℕ) where
  -- the option that was found for this word, with its argument if the word has that
  abbrev pub with_found : (value : Option (List ℕ)) → Reading → Option OptionEntry → Result Reading UsageError
  with_found value r None = Err (unknown_option word)
  with_found value r (Some option) = used word option.sets value (noted command option.scope word r)

  -- `--NAME` or `--NAME=VALUE`
  abbrev pub with_long : (long : List ℕ) → Reading → Result Reading UsageError
  with_long long r = with_found (name_and_value long).1 r (find (has_long (name_and_value long).0) options)

  -- The options with these letters, which are of ASCII. What follows the letter of an option with an argument is that
  -- argument, if it is not empty.
  abbrev pub with_letters : (letters : List ℕ) → Reading → Result Reading UsageError
  with_letters [] r = Ok r
  with_letters (c ∷ cs) r =
      if not (nat_lt c 128) then Err (unknown_option word)
      else if is_valued (find (has_letter c) options) then with_found (unless_empty cs) r (find (has_letter c) options)
      else on_ok (with_letters cs) (with_found None r (find (has_letter c) options))

  -- `--NAME`, or a hyphen and letters
  abbrev pub with_option : Reading → Result Reading UsageError
  with_option r = if starts_with (λ b c. b == c) word (codes "--") then with_long (drop 2 word) r else with_letters (letters_of word) r

  -- an option, or the argument that the last one awaits
  abbrev pub with_awaited : Option Argument → Reading → Result Reading UsageError
  with_awaited (Some argument) r = with_value argument word word r
  with_awaited None r = with_option r

  abbrev pub with_word : Reading → Result Reading UsageError
  with_word r = with_awaited r.awaits r

-- the error, or the one that was noted before it
abbrev pub or_denied : Option UsageError → Result Reading UsageError → Result Reading UsageError
or_denied denied (Ok r) = Ok r
or_denied denied (Err error) = Err (first_error denied error)

-- the end of the arguments
abbrev pub ended : Words → Option Argument → Result Words UsageError
ended w None = Ok w
ended w (Some argument) = Err (first_error w.reading.denied (missing argument.name.now))

module _ (options : List OptionEntry) (command : Command) where
  -- What the arguments are. `--` ends the options.
  abbrev pub options_of : Words → List (String Global) → Result Words UsageError
  options_of w [] = ended w w.reading.awaits
  options_of w (first ∷ rest) =
      if is_none w.reading.awaits && bytes_eq (string_bytes first) (codes "--") then Ok (with_operands (map string_bytes rest) w)
      else if is_none w.reading.awaits && not (is_option (string_bytes first)) then options_of (with_operands (string_bytes first ∷ []) w) rest
      else on_ok (λ r. options_of (with_reading w r) rest) (or_denied w.reading.denied (with_word options command (string_bytes first) w.reading))
