-- The rules that differ among the dialects. In the dialect `Ecma` each of them is that of ECMA-262.
use Rattle.std.specs.Prelude.{ℕ, Bool, true, false, not, ◌&&◌, ◌||◌, ◌==◌}
use Rattle.regress_base.specs.declared.types.Flags.{Flags}
use Rattle.regress_lexer.specs.declared.dialect.Dialect.{Dialect}
use Rattle.regress_lexer.specs.declared.dialect.Dialect.TheVariants.{Regress, Ecma}
use Rattle.regress_lexer.specs.Source.{Source, char, is_at}

-- The flags in force for a pattern with these flags. In `Ecma` the flag v implies u (ECMA-262, ParsePattern).
abbrev pub flags_in_force : Dialect → Flags → Flags
flags_in_force Regress flags = flags
flags_in_force Ecma flags = record flags { unicode = flags.unicode || flags.unicode_sets }

-- whether a quantifier may follow `\b` and `\B` (ECMA-262, Term: none follows an Assertion but a lookahead)
abbrev pub quantifies_boundaries : Dialect → Bool
quantifies_boundaries Regress = true
quantifies_boundaries Ecma = false

-- whether braces after `\u` make an escape (ECMA-262, RegExpUnicodeEscapeSequence); in the name of a group they always do
abbrev pub has_braces : Dialect → (unicode : Bool) → Bool
has_braces Regress unicode = true
has_braces Ecma unicode = unicode

-- What follows a backslash is a `u` that is a letter, since the brace after it makes no escape.
abbrev pub is_lone_u : Dialect → (unicode : Bool) → ℕ → Source → Bool
is_lone_u dialect unicode c t = c == char "u" && not (has_braces dialect unicode) && is_at (char "{") t

-- whether in a class `\k` is an error where some group has a name (ECMA-262, B.1.2, SourceCharacterIdentityEscape)
abbrev pub reserves_k : Dialect → Bool
reserves_k Regress = false
reserves_k Ecma = true

-- Whether a reference by name to several groups tries one after the other. Otherwise it matches what the one that is set
-- has captured (ECMA-262, BackreferenceMatcher).
abbrev pub tries_references : Dialect → Bool
tries_references Regress = true
tries_references Ecma = false

-- Whether the strings of a property outside of a class are tried in the order in which the table lists them. Otherwise the
-- longest are tried first (ECMA-262, CompileAtom).
abbrev pub keeps_listed_order : Dialect → Bool
keeps_listed_order Regress = true
keeps_listed_order Ecma = false

-- ---- classes without the flag v

-- Whether in a class a code point above U+FFFF is two members, its surrogates (ECMA-262, ParsePattern: without the flag u a
-- pattern is parsed as code units).
abbrev pub splits_pairs : Dialect → (unicode : Bool) → Bool
splits_pairs Regress unicode = false
splits_pairs Ecma unicode = not unicode

-- ---- classes with the flag i

-- With the flag i a class has the characters that it has in ECMA-262 (CompileToCharSet, CharacterSetMatcher): without the
-- flag u those with the upper case of a member, with u `\W` excludes the extra word characters too, and with v each
-- operand is closed under case folding before a complement is taken. Otherwise a class is closed under case folding once
-- it is built, with all flags.
abbrev pub compiles_case : Dialect → Bool
compiles_case Regress = false
compiles_case Ecma = true

-- ---- classes with the flag v

-- Of the punctuators that are operators or may become such when doubled, no two follow each other. Otherwise no one
-- follows itself (ECMA-262, ClassSetReservedDoublePunctuator).
abbrev pub reserves_pairs : Dialect → Bool
reserves_pairs Regress = true
reserves_pairs Ecma = false

-- A `&` after the first operand begins no range, and one after `&&` is an operand. Otherwise the former may begin one, and
-- the latter is an error (ECMA-262, ClassUnion and ClassIntersection).
abbrev pub isolates_ampersand : Dialect → Bool
isolates_ampersand Regress = true
isolates_ampersand Ecma = false

-- A negated class is judged by its contents: it has no string, and no property of strings as an operand. Otherwise it is
-- judged by what is written in it (ECMA-262, MayContainStrings).
abbrev pub judges_contents : Dialect → Bool
judges_contents Regress = true
judges_contents Ecma = false
