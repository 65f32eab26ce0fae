-- How the two are compared.
use Rattle.std.specs.Prelude.{◌≡◌, true, false, List, ℕ}
use Rattle.regress_base.specs.Classes.{word_characters}
use Rattle.regress_base.specs.Intervals.{is_member}
use Rattle.regress_base.specs.Table.{Table, HasStrings}
use Rattle.regress_tree.specs.Steps.{Setting}
use Rattle.regress_tree.specs.Steps as Steps
use Rattle.regress_lexer.specs.declared.dialect.Dialect.TheVariants.{Ecma}
use Rattle.regress_syntax.specs.Productions.{Context}
use Rattle.regress_syntax.specs.Syntax.{Pattern, counts, names}
use Rattle.regress_ecma.specs.Notation.{MatchState}
use Rattle.regress_ecma.specs.Differences.{HasCaseDataOfUnicode, IsProper, differs}

-- a state of the dialect on a text, as one of ECMA-262
abbrev pub state_on : List ℕ → Steps.MatchState → MatchState
state_on text s = record { input = text; end_index = s.position; captures = s.captures }

-- The table has the case mappings of Unicode, the flag v comes with u, and the syntax tree is one of the grammar without a
-- differing construct.
pub record IsComparable (setting : Setting) (p : Pattern) : Type 0 where
  pub maps : HasCaseDataOfUnicode setting.table
  pub with_u : setting.flags.unicode_sets ≡ true → setting.flags.unicode ≡ true
  pub proper : IsProper setting.flags p
  pub same : differs (names p) setting.flags p ≡ false

-- ---- the dialect `Ecma`

-- Facts about Unicode that a table need not have: its case mappings, that the upper case of a word character is one, and
-- that no property contains the empty string.
pub record IsOfUnicode (table : Table) : Type 0 where
  pub maps : HasCaseDataOfUnicode table
  pub upper_keeps_words : (c : ℕ) → is_member word_characters c ≡ true → is_member word_characters (table.uppercase c) ≡ true
  pub strings : HasStrings table.strings

-- the parser's context of a pattern in the dialect `Ecma`: its own groups and their names
abbrev pub own_context : Setting → Pattern → Context
own_context setting p = record { dialect = Ecma; setting = setting; groups = (counts p).groups; names = names p }
