-- ECMA-262 (2025), 22.2.1 Patterns: GroupName and RegExpIdentifierName, with their early errors (22.2.1.1). The parameter
-- [UnicodeMode] is `unicode`. Sources are code points, in which no lead surrogate is before a trail surrogate.
use Rattle.std.specs.Prelude.{◌≡◌, ℕ, Bool, true, not, ◌&&◌, ◌||◌, List, [], ◌∷◌, ◌⊎◌, Some, nat_le, ◌==◌}
use lib.Utf8.{scalar}
use Rattle.regress_base.specs.Intervals.{is_member}
use Rattle.regress_base.specs.Table.{Table, HasWordAscii}
use Rattle.regress_lexer.specs.Source.{Source, char, is_one_of}
use Rattle.regress_ecma.specs.CharacterEscapes.{led_by, unicode_escape}

-- UnicodeIDStart and UnicodeIDContinue: a code point with the property ID_Start, or with ID_Continue. No surrogate has these.
abbrev pub is_unicode_id_start : Table → ℕ → Bool
is_unicode_id_start table c = scalar c && is_member table.id_start c

abbrev pub is_unicode_id_continue : Table → ℕ → Bool
is_unicode_id_continue table c = scalar c && is_member table.id_continue c

-- IdentifierStartChar
abbrev pub is_identifier_start_char : Table → ℕ → Bool
is_identifier_start_char table c = is_unicode_id_start table c || is_one_of "$_" c

-- `$`, and `_` with the joiners U+200C and U+200D, which have ID_Continue
abbrev pub is_dollar_or_joins : ℕ → Bool
is_dollar_or_joins c = is_one_of "$_" c || c == 0x200C || c == 0x200D

-- IdentifierPartChar
abbrev pub is_identifier_part_char : Table → ℕ → Bool
is_identifier_part_char table c = is_unicode_id_continue table c || is_dollar_or_joins c

-- In what follows, the node is derived from t, and `rest` remains. A node is the list of its code points.

-- Alternatives of RegExpIdentifierStart and RegExpIdentifierPart, for the characters of which p is true, and the code points
-- with a property q. The value of an escape has to be such a character (22.2.1.1); nothing else derives a name.
abbrev pub IsIdentifierCharacter : (unicode : Bool) → (p q : ℕ → Bool) → ℕ → (t rest : Source) → Type 0
IsIdentifierCharacter unicode p q c t rest =
    -- IdentifierStartChar or IdentifierPartChar, which without the flag u are code units
    (t ≡ c ∷ rest) × ((unicode || not (nat_le 0x10000 c)) ≡ true) × (p c ≡ true)
    -- `\` RegExpUnicodeEscapeSequence[+UnicodeMode]
    ⊎ ((led_by (char "\\") (unicode_escape true) t ≡ Some (c, rest)) × (p c ≡ true)
    -- [~UnicodeMode] UnicodeLeadSurrogate UnicodeTrailSurrogate: a code point above U+FFFF
    ⊎ (t ≡ c ∷ rest) × ((not unicode && nat_le 0x10000 c) ≡ true) × (q c ≡ true))

module _ (table : Table) (unicode : Bool) where
  abbrev pub IsRegExpIdentifierStart : ℕ → (t rest : Source) → Type 0
  IsRegExpIdentifierStart = IsIdentifierCharacter unicode (is_identifier_start_char table) (is_unicode_id_start table)

  abbrev pub IsRegExpIdentifierPart : ℕ → (t rest : Source) → Type 0
  IsRegExpIdentifierPart = IsIdentifierCharacter unicode (is_identifier_part_char table) (is_unicode_id_continue table)

  -- each of them, one after the other
  abbrev pub AreRegExpIdentifierParts : List ℕ → (t rest : Source) → Type 0
  AreRegExpIdentifierParts [] t rest = t ≡ rest
  AreRegExpIdentifierParts (c ∷ cs) t rest = (u : Source) × IsRegExpIdentifierPart c t u × AreRegExpIdentifierParts cs u rest

  -- RegExpIdentifierName: RegExpIdentifierStart, or RegExpIdentifierName RegExpIdentifierPart
  abbrev pub IsRegExpIdentifierName : List ℕ → (t rest : Source) → Type 0
  IsRegExpIdentifierName [] t rest = ⊥
  IsRegExpIdentifierName (c ∷ cs) t rest = (u : Source) × IsRegExpIdentifierStart c t u × AreRegExpIdentifierParts cs u rest

  -- GroupName: `<` RegExpIdentifierName `>`
  abbrev pub IsGroupName : List ℕ → (t rest : Source) → Type 0
  IsGroupName name t rest = (u : Source) × (t ≡ char "<" ∷ u) × IsRegExpIdentifierName name u (char ">" ∷ rest)

-- What the properties of Unicode have, so that no character that delimits a name is in an identifier: their ASCII characters are
-- letters, digits and `_`.
abbrev pub HasIdentifiers : Table → Type 0
HasIdentifiers table = HasWordAscii table.id_start × HasWordAscii table.id_continue
