-- Every accepted pattern is also accepted by the rule of the Rust crate on duplicate names, with the same tree. That
-- rule compares only the numbers of the alternatives, depth by depth, whichever groups they belong to.
use Rattle.std.proofs.Common.{◌≡◌, ap, IsTrue}
use Rattle.regress_base.specs.Table.{IsValidTable}
use Rattle.regress_tree.specs.Steps.{Setting}
use Rattle.regress_lexer.specs.declared.dialect.Dialect.TheVariants.{Regress}
use Rattle.regress_lexer.specs.Source.{Source}
use Rattle.regress_syntax.specs.Syntax.{Pattern}
use Rattle.regress_syntax.specs.GroupTokens.{tokens_of}
use Rattle.regress_syntax.specs.Paths.{at_the_start, groups_by}
use Rattle.regress_syntax.proofs.lemmas.Paths.{are_apart_by_numbers}
use Rattle.regress_syntax.proofs.lemmas.SameNames.{apart_by_numbers_too}
use Rattle.regress_syntax.proofs.lemmas.Scan.{gives_tokens}
use Rattle.regress_parse.specs.TreeOf.{tree_of}
use Rattle.regress_parse.specs.Accepted.{IsDerived, IsWithinLimits, IsAccepted}
use Rattle.regress_parse.proofs.AcceptedLemmas.{same_derived}

-- as `IsAccepted`, except for the rule on names
pub record IsAcceptedByNumbers (setting : Setting) (source : Source) (p : Pattern) : Type 0 where
  pub derived : IsDerived setting source p
  pub limits : IsWithinLimits p
  pub names : IsTrue (are_apart_by_numbers (groups_by at_the_start (tokens_of p)))

module _ (setting : Setting) (source : Source) where
  pub accepted_by_numbers_too : (p : Pattern) → IsAccepted setting source p → IsAcceptedByNumbers setting source p
  accepted_by_numbers_too p h = record { derived = h.derived; limits = h.limits; names = apart_by_numbers_too p h.names }

  pub same_tree : IsValidTable setting.table → (p q : Pattern) → IsAccepted setting source p → IsAcceptedByNumbers setting source q →
      tree_of setting.table p ≡ tree_of setting.table q
  same_tree lawful p q h k =
      ap (tree_of setting.table)
      (same_derived Regress setting source (gives_tokens setting.flags.unicode_sets setting.table source lawful) p q h.derived k.derived)
