-- What the options specify.
use Rattle.std.specs.Prelude.{ℕ, Bool, true, false, not, ◌||◌, ◌&&◌, ◌^◌, nat_lt, List, Option, Some, None, option_and_then, option_map, if◌then◌else◌, ◌==◌, bytes_eq, codes, length}
use Rattle.std.specs.Str.{all_ascii_digits}
use Rattle.std.specs.Str.Parse.{digits_value}
use Rattle.regress_arguments.specs.Letters.{no_flags, with_letters}
use Rattle.regress_base.specs.declared.types.Flags.{Flags}
use Rattle.regress_lexer.specs.declared.dialect.Dialect.{Dialect}
use Rattle.regress_lexer.specs.declared.dialect.Dialect.TheVariants.{Regress, Ecma}
use Rattle.regex_options.specs.Plain.{NameGlob, Source, in_argument, in_file, name_glob, source}
use Rattle.regex_options.specs.declared.given.Around.{Around}
use Rattle.regex_options.specs.declared.given.Color.{Color}
use Rattle.regex_options.specs.declared.given.Color.TheVariants.{Always, Never, Auto}
use Rattle.regex_options.specs.declared.given.Given as code
use Rattle.regex_options.specs.declared.given.Options.{Options}
use Rattle.regex_options.specs.declared.table.Switch.{Switch}
use Rattle.regex_options.specs.declared.table.Switch.TheVariants.{Help, Version, IgnoreCase, Fixed, WholeLines, WholeWords, Multiline, Recursive, LineBuffered, Binary, Invert, FileNames, Null, Numbers, Shown, Json, Stage, Small, Html}
use Rattle.regex_options.specs.declared.table.Value.{Value}
use Rattle.regex_options.specs.declared.table.Value.TheVariants.{Pattern, File, Flags as FlagLetters, Dialect as DialectName, Count, Replacements, Context, Color as When, Text, Include, Exclude, InPlace, Encoding as EncodingName}
use Rattle.regex_options.specs.declared.task.Encoding.{Encoding}
use Rattle.regex_options.specs.declared.task.Encoding.TheVariants.{Bytes, Utf8}
use Rattle.regex_options.specs.declared.task.FileNames.TheVariants.{IfSeveral}
use Rattle.regex_options.specs.declared.task.Shown.TheVariants.{Lines}
use Rattle.regex_options.specs.declared.task.Side.{Side}
use Rattle.regex_options.specs.declared.task.Side.TheVariants.{Before, After, Both}

-- the options, and the texts that they have: the pattern of the last option, the text of a page, the glob of the last
-- option, and the suffix of the originals of files that are rewritten
pub record Given : Type 0 where
  pub options : Options
  pub pattern : Option Source
  pub text : Option (List ℕ)
  pub glob : Option NameGlob
  pub in_place : Option (List ℕ)

abbrev pub no_options : Options
no_options = record {
  help = false;
  version = false;
  flags = no_flags;
  dialect = Ecma;
  form = record { fixed = false; lines = false; words = false };
  selection = record { invert = false; file_names = IfSeveral; null = false; numbers = false; shown = Lines; max_count = None; context = None };
  around = record { before = None; after = None; both = None };
  max_replacements = None;
  input = record { multiline = false; encoding = Bytes };
  recursive = false;
  line_buffered = false;
  json = false;
  color = None;
  stage = None;
  small = false;
  html = false;
}

abbrev pub nothing_given : Given
nothing_given = record { options = no_options; pattern = None; text = None; glob = None; in_place = None }

-- what the options specify, as the code represents it
abbrev pub given_by : code.Given → Given
given_by given = record {
  options = given.options;
  pattern = option_map source given.pattern;
  text = option_map (λ text. text.now) given.text;
  glob = option_map name_glob given.glob;
  in_place = option_map (λ suffix. suffix.now) given.in_place;
}

-- the options with one more
abbrev pub switched : Switch → Options → Options
switched Help o = record o { help = true }
switched Version o = record o { version = true }
switched IgnoreCase o = record o { flags = record o.flags { icase = true } }
switched Fixed o = record o { form = record o.form { fixed = true } }
switched WholeLines o = record o { form = record o.form { lines = true } }
switched WholeWords o = record o { form = record o.form { words = true } }
switched Multiline o = record o { input = record o.input { multiline = true } }
switched Recursive o = record o { recursive = true }
switched LineBuffered o = record o { line_buffered = true }
switched Binary o = o
switched Invert o = record o { selection = record o.selection { invert = true } }
switched (FileNames names) o = record o { selection = record o.selection { file_names = names } }
switched Null o = record o { selection = record o.selection { null = true } }
switched Numbers o = record o { selection = record o.selection { numbers = true } }
switched (Shown shown) o = record o { selection = record o.selection { shown = shown } }
switched Json o = record o { json = true }
switched (Stage stage) o = record o { stage = Some stage }
switched Small o = record o { small = true }
switched Html o = record o { html = true }

-- v includes u, and both together are invalid
abbrev pub js_flags : Options → Flags → Option Options
js_flags o flags =
    if flags.unicode && flags.unicode_sets then None
    else Some (record o { flags = record flags { icase = flags.icase || o.flags.icase; unicode = flags.unicode || flags.unicode_sets } })

-- the options with the flags of these letters, besides i if it was given before
abbrev pub with_flags : (letters : List ℕ) → Options → Option Options
with_flags letters o = option_and_then (js_flags o) (with_letters no_flags letters)

-- a dialect by its name
abbrev pub dialect_of : List ℕ → Option Dialect
dialect_of name =
    if bytes_eq name (codes "regress") then Some Regress
    else if bytes_eq name (codes "ecma") then Some Ecma
    else None

abbrev pub with_dialect : (name : List ℕ) → Options → Option Options
with_dialect name o = option_map (λ dialect. record o { dialect = dialect }) (dialect_of name)

-- an encoding by its name
abbrev pub encoding_of : List ℕ → Option Encoding
encoding_of name =
    if bytes_eq name (codes "utf-8") then Some Utf8
    else if bytes_eq name (codes "bytes") then Some Bytes
    else None

abbrev pub with_encoding : (name : List ℕ) → Options → Option Options
with_encoding name o = option_map (λ encoding. record o { input = record o.input { encoding = encoding } }) (encoding_of name)

-- the number that decimal digits denote, if it has 64 bits
abbrev pub count_of : List ℕ → Option ℕ
count_of text =
    if not (length text == 0) && all_ascii_digits text && nat_lt (digits_value 10 text) (2 ^ 64) then Some (digits_value 10 text) else None

-- the options with at most this many selected lines
abbrev pub with_count : (text : List ℕ) → Options → Option Options
with_count text o = option_map (λ count. record o { selection = record o.selection { max_count = Some count } }) (count_of text)

-- the options with at most this many matches of a line that are replaced
abbrev pub with_replacements : (text : List ℕ) → Options → Option Options
with_replacements text o = option_map (λ count. record o { max_replacements = Some count }) (count_of text)

-- this many lines on a side of selected ones, or on both
abbrev pub around_with : Side → (count : ℕ) → Around → Around
around_with Before count around = record around { before = Some count }
around_with After count around = record around { after = Some count }
around_with Both count around = record around { both = Some count }

abbrev pub with_context : Side → (text : List ℕ) → Options → Option Options
with_context side text o = option_map (λ count. record o { around = around_with side count o.around }) (count_of text)

-- when the output is in color, by its name
abbrev pub color_of : List ℕ → Option Color
color_of when =
    if bytes_eq when (codes "always") then Some Always
    else if bytes_eq when (codes "never") then Some Never
    else if bytes_eq when (codes "auto") then Some Auto
    else None

abbrev pub with_color : (when : List ℕ) → Options → Option Options
with_color when o = option_map (λ color. record o { color = Some color }) (color_of when)

-- what is given with this pattern
abbrev pub with_pattern : Source → Given → Given
with_pattern pattern given = record given { pattern = Some pattern }

-- what is given with this glob
abbrev pub with_glob : (text : List ℕ) → (includes : Bool) → Given → Given
with_glob text includes given = record given { glob = Some (record { text = text; includes = includes }) }

-- what is given with one more option, unless its argument is invalid
abbrev pub valued : Value → (text : List ℕ) → Given → Option Given
valued Pattern text given = Some (with_pattern (in_argument text) given)
valued File text given = Some (with_pattern (in_file text) given)
valued FlagLetters text given = option_map (λ options. record given { options = options }) (with_flags text given.options)
valued DialectName text given = option_map (λ options. record given { options = options }) (with_dialect text given.options)
valued EncodingName text given = option_map (λ options. record given { options = options }) (with_encoding text given.options)
valued Count text given = option_map (λ options. record given { options = options }) (with_count text given.options)
valued Replacements text given = option_map (λ options. record given { options = options }) (with_replacements text given.options)
valued (Context side) text given = option_map (λ options. record given { options = options }) (with_context side text given.options)
valued When text given = option_map (λ options. record given { options = options }) (with_color text given.options)
valued Text text given = Some (record given { text = Some text })
valued InPlace text given = Some (record given { in_place = Some text })
valued Include text given = Some (with_glob text true given)
valued Exclude text given = Some (with_glob text false given)
