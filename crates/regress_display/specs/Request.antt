-- What to show of a pattern, and accepted and rejected patterns.
use Rattle.std.specs.Prelude.{ℕ, Bool, List, if◌then◌else◌, chars}
use Rattle.regress_base.specs.Table.{Table}
use Rattle.regress_base.specs.declared.types.Flags.{Flags}
use Rattle.regress_lexer.specs.Dialects.{flags_in_force}
use Rattle.regress_lexer.specs.declared.dialect.Dialect.{Dialect}
use Rattle.regress_parse.specs.Accepted as parse
use Rattle.regress_parse.specs.Rejected as rejected
use Rattle.regress_syntax.specs.Syntax.{Pattern}
use Rattle.regress_tree.specs.Steps.{Setting}
use Rattle.regress_ucd.specs.UnicodeTable.{unicode_table}
use Rattle.regress_unicode.specs.SmallTable.{small_table}
use Rattle.regress_display.specs.declared.request.Format.{Format}
use Rattle.regress_display.specs.declared.request.Request as code
use Rattle.regress_display.specs.declared.request.Stage.{Stage}

-- which tree of a pattern to show in which format; the pattern as a list of code points
pub record Request : Type 0 where
  pub format : Format
  pub stage : Stage
  pub table : Table
  pub pattern : List ℕ
  pub flags : Flags
  pub dialect : Dialect

-- the small table, or that of all of Unicode
abbrev pub table_asked : Bool → Table
table_asked small = if small then small_table else unicode_table

-- a request as the code represents it
abbrev pub requested : code.Request → Request
requested r = record {
  format = r.format;
  stage = r.stage;
  table = table_asked r.small;
  pattern = chars r.pattern.now;
  flags = r.flags;
  dialect = r.dialect;
}

-- the flags in force, and the request's table
abbrev pub setting_of_request : Request → Setting
setting_of_request request = record { flags = flags_in_force request.dialect request.flags; table = request.table }

-- In the requested dialect the text denotes this pattern, under its flags and table.
abbrev pub IsAccepted : Request → Pattern → Type 0
IsAccepted request p = parse.IsAcceptedIn request.dialect (setting_of_request request) request.pattern p

-- The requested text denotes some pattern.
abbrev pub IsAcceptedPattern : Request → Type 0
IsAcceptedPattern request = (p : Pattern) × IsAccepted request p

-- The requested text denotes no pattern.
abbrev pub NoneIsAccepted : Request → Type 0
NoneIsAccepted request = rejected.NoneIsAcceptedIn request.dialect (setting_of_request request) request.pattern
