-- The case mappings are those of the constants, which are valid.
use Rattle.std.proofs.Common.{◌∙◌, ap₂, sym, subst}
use Rattle.std.proofs.lemmas.Result.{IfOk-weaker}
use Rattle.regress_unicode.specs.Parts.{table_from, with_unicode_properties}
use Rattle.regress_unicode.specs.ValidEntries.{AreValidEntries}
use Rattle.regress_ucd.specs.UnicodeTable.{unicode_parts, unicode_table}
use Rattle.regress_ucd.proofs.ConstantsLemmas.{folds, uppers, valid_folds, valid_uppers}
use Rattle.regress_ucd.proofs.WholeLemmas.{no_table}
use Rattle.regress_ucd.proofs.whole.unicode_tables.Goals as goal

pub mappings-requires : goal.mappings-requires
mappings-requires c = folds

pub mappings-requires-2 : goal.mappings-requires-2
mappings-requires-2 c = uppers

pub with_unicode_properties-requires : goal.with_unicode_properties-requires
with_unicode_properties-requires c = record {
  folds = subst AreValidEntries (sym c.in_ok-folds.ensures) valid_folds;
  uppers = subst AreValidEntries (sym c.in_ok-uppers.ensures) valid_uppers;
}

pub returns : goal.returns
unfolding unicode_table unicode_parts
returns c =
    IfOk-weaker c.with_unicode_properties.result _ _
    (λ tables is. is ∙ ap₂ (λ fs us. table_from (with_unicode_properties fs us)) c.in_ok-folds.ensures c.in_ok-uppers.ensures)
    c.with_unicode_properties.ensures

pub returns-in_err-folds : goal.returns-in_err-folds
returns-in_err-folds c = no_table _ _ c.from_residual.ensures.1

pub returns-in_err-uppers : goal.returns-in_err-uppers
returns-in_err-uppers c = no_table _ _ c.from_residual-in_err-uppers.ensures.1
