-- The names of groups, in angle brackets (ECMA-262, GroupName).
use Rattle.std.specs.Prelude.{ℕ, zero, suc, ◌+◌, Bool, ◌&&◌, ◌||◌, [], ◌∷◌, length, drop, Some, None, if◌then◌else◌, ◌==◌}
use lib.Utf8.{scalar}
use Rattle.regress_base.specs.Intervals.{is_member}
use Rattle.regress_base.specs.Table.{Table}
use Rattle.regress_lexer.specs.Source.{Source, Found, ◌>>=◌, found_map, char, is_one_of, is_at}
use Rattle.regress_lexer.specs.Escapes.{unicode_at}
use Rattle.regress_syntax.specs.Syntax.{Name}

-- `$` or `_`
abbrev pub is_dollar_or_underscore : ℕ → Bool
is_dollar_or_underscore c = is_one_of "$_" c

-- The code point may begin a name (ECMA-262, RegExpIdentifierStart).
abbrev pub begins_name : Table → ℕ → Bool
begins_name table c = scalar c && (is_dollar_or_underscore c || is_member table.id_start c)

-- The joiners U+200C and U+200D may continue a name too (ECMA-262, RegExpIdentifierPart).
abbrev pub continues_name : Table → ℕ → Bool
continues_name table c = scalar c && (is_dollar_or_underscore c || c == 0x200C || c == 0x200D || is_member table.id_continue c)

-- one character: a literal one, or an escape with `\u` that has a value
abbrev pub literal_or_escape_at : Source → Found ℕ
literal_or_escape_at [] = None
literal_or_escape_at (c ∷ t) = if c == char "\\" then (if is_at (char "u") t then unicode_at (drop 1 t) else None) else Some (c, t)

-- one character that passes the test
abbrev pub name_character_at : (ℕ → Bool) → Source → Found ℕ
name_character_at p t = literal_or_escape_at t >>= λ (c, rest). if p c then Some (c, rest) else None

-- The rest of a name, up to an unescaped `>`. The first argument bounds its length.
unfoldable pub rest_of_name_by : ℕ → Table → Source → Found Name
rest_of_name_by zero table t = None
rest_of_name_by (suc n) table t =
    if is_at (char ">") t then Some ([], drop 1 t)
    else name_character_at (continues_name table) t >>= λ (c, rest).
    found_map (λ cs. c ∷ cs) (rest_of_name_by n table rest)

-- what follows `<`: a name and `>`
unfoldable pub name_at : Table → Source → Found Name
name_at table t =
    name_character_at (begins_name table) t >>= λ (c, rest).
    found_map (λ cs. c ∷ cs) (rest_of_name_by (length rest + 1) table rest)

-- a name with its angle brackets
abbrev pub group_name_at : Table → Source → Found Name
group_name_at table t = if is_at (char "<") t then name_at table (drop 1 t) else None
