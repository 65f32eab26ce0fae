-- The complete table is valid.
use Rattle.std.proofs.Common.{map}
use Rattle.regress_base.specs.Table.{IsValidTable}
use Rattle.regress_unicode.proofs.lemmas.Soundness.{unicode_sound}
use Rattle.regress_ucd.specs.declared.data.cases.TheConstants.{FOLDS, UPPERS}
use Rattle.regress_ucd.specs.Data.{mapping}
use Rattle.regress_ucd.specs.UnicodeTable.{unicode_parts, unicode_table}
use Rattle.regress_ucd.proofs.ConstantsLemmas.{valid_folds, valid_uppers}

pub unicode_valid : IsValidTable unicode_table
unfolding unicode_table unicode_parts
unicode_valid = (unicode_sound (map mapping FOLDS.now) (map mapping UPPERS.now) valid_folds valid_uppers).lawful
