-- The input of a match.
use Rattle.std.specs.Prelude.{ℕ, List}
use Rattle.regress_tree.specs.Reading.{Direction, direction_if}
use Rattle.regress_tree.specs.Steps.{Setting}
use Rattle.regress_unicode.specs.TableOf.{table_of}
use Rattle.regress_leaves.specs.declared.rules.MatchContext.{MatchContext}

-- a text in UTF-8, with the flags, the case mappings and the direction of a match
pub record Subject : Type 0 where
  pub setting : Setting
  pub bytes : List ℕ
  pub direction : Direction

-- the text in the context of a match
abbrev pub subject : MatchContext → List ℕ → Subject
subject rules bytes = record {
  setting = record { flags = rules.flags; table = table_of rules.known.tables.now };
  bytes = bytes;
  direction = direction_if rules.backwards;
}
