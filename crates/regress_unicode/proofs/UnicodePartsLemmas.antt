-- The parts of a table with the properties of Unicode. Lists that are not read are of no account.
use Rattle.std.proofs.Common.{◌≡◌, true, List, []}
use Rattle.regress_base.specs.Intervals.{Bounds}
use Rattle.regress_properties.specs.Properties.{unicode_id_start, unicode_id_continue}
use Rattle.regress_unicode.specs.FoldEntries.{FoldEntry}
use Rattle.regress_unicode.specs.Parts.{parts_from, parts_with, with_unicode_properties}

pub unicode_from : (folds uppers : List FoldEntry) (id_start id_continue : List Bounds) →
    id_start ≡ unicode_id_start → id_continue ≡ unicode_id_continue →
    parts_with true (parts_from folds uppers id_start id_continue [] [] [] [] []) ≡ with_unicode_properties folds uppers
unicode_from folds uppers id_start id_continue start continue = rw (start, continue)
