-- Properties by name, after `\p` or `\P` (ECMA-262, UnicodePropertyValueExpression; the names are those of the table).
use Rattle.std.specs.Prelude.{ℕ, Bool, ◌||◌, List, length, drop, Option, Some, None, option_map, if◌then◌else◌, ◌==◌, codes}
use Rattle.std.specs.Option.{option_or}
use Rattle.std.specs.Str.{bytes_eq}
use Rattle.regress_base.specs.Intervals.{Bounds}
use Rattle.regress_base.specs.Table.{Table, Named, named}
use Rattle.regress_lexer.specs.Source.{Source, Found, ◌>>=◌, char, is_at}
use Rattle.regress_lexer.specs.Digits.{is_decimal, is_letter, front, after}

-- A property that a name denotes, of code points or of strings.
pub data Property : Type 0 where
  of_points : (members : List Bounds) → Property
  of_strings : (written : List (List ℕ)) → Property

-- the members of a property of code points
abbrev pub points_of : Property → Option (List Bounds)
points_of (of_points members) = Some members
points_of (of_strings written) = None

-- a character of a name or value (ECMA-262, UnicodePropertyValueCharacter)
abbrev pub is_property_character : ℕ → Bool
is_property_character c = is_letter c || is_decimal c || c == char "_"

-- the list of the table with this name (ECMA-262, the non-binary Unicode properties)
abbrev pub list_named : Table → List ℕ → Option (List (Named (List Bounds)))
list_named table name =
    if bytes_eq name (codes "General_Category") || bytes_eq name (codes "gc") then Some table.general_category
    else if bytes_eq name (codes "Script") || bytes_eq name (codes "sc") then Some table.script
    else if bytes_eq name (codes "Script_Extensions") || bytes_eq name (codes "scx") then Some table.script_extensions
    else None

abbrev pub strings_named : (sets : Bool) → Table → List ℕ → Option Property
strings_named sets table value = if sets then option_map of_strings (named value table.strings) else None

-- A value without a property name: a binary property, with the flag v one of strings, or a general category (ECMA-262,
-- LoneUnicodePropertyNameOrValue).
abbrev pub lone_value : (sets : Bool) → Table → List ℕ → Option Property
lone_value sets table value =
    option_or (option_map of_points (named value table.binary))
    (option_or (strings_named sets table value) (option_map of_points (named value table.general_category)))

-- a value in a list
abbrev pub value_in : List ℕ → Option (List (Named (List Bounds))) → Option Property
value_in value None = None
value_in value (Some entries) = option_map of_points (named value entries)

-- a property before its `}`
abbrev pub closed_property : Option Property → Source → Found Property
closed_property None t = None
closed_property (Some property) t = if is_at (char "}") t then Some (property, drop 1 t) else None

-- a name or value: all such characters at the start of a source, at least one (ECMA-262, UnicodePropertyName,
-- UnicodePropertyValue)
abbrev pub property_word_at : Source → Found (List ℕ)
property_word_at t =
    if length (front is_property_character t) == 0 then None
    else Some (front is_property_character t, after is_property_character t)

-- a value and `}`, after the name of a list and `=`
abbrev pub listed_value_at : Table → List ℕ → Source → Found Property
listed_value_at table name t = property_word_at t >>= λ (value, rest). closed_property (value_in value (list_named table name)) rest

-- the name of a list, `=`, a value and `}`, or a value alone and `}`, after the `{`
abbrev pub braced_property_at : (sets : Bool) → Table → Source → Found Property
braced_property_at sets table t =
    property_word_at t >>= λ (word, rest).
    if is_at (char "=") rest then listed_value_at table word (drop 1 rest) else closed_property (lone_value sets table word) rest

-- the property after `\p` or `\P`; `sets` is the flag v
unfoldable pub property_at : (sets : Bool) → Table → Source → Found Property
property_at sets table t = if is_at (char "{") t then braced_property_at sets table (drop 1 t) else None
