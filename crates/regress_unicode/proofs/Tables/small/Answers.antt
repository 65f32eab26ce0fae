-- The parts are those of the small table, which satisfies the invariants of tables.
use Rattle.std.proofs.Common.{◌∙◌, ap, sym, subst}
use Rattle.regress_unicode.specs.Parts.{table_from}
use Rattle.regress_unicode.specs.ValidEntries.{IsSound}
use Rattle.regress_unicode.specs.SmallTable.{small_table}
use Rattle.regress_unicode.proofs.SmallTableLemmas.{small_from, small_sound}
use Rattle.regress_unicode.proofs.Tables.small.Goals as goal

pub from_sound_parts-requires : goal.from_sound_parts-requires
from_sound_parts-requires c =
    let same = small_from _ _ _ _ _ _ _ _ _ c.in_ok-small_folds.ensures c.in_ok-small_uppers.ensures c.in_ok-small_id_start.ensures
    c.in_ok-small_id_continue.ensures c.in_ok-small_general_category.ensures c.in_ok-small_script.ensures
    c.in_ok-small_script-2.ensures c.in_ok-small_binary.ensures c.in_ok-small_strings.ensures in
    subst IsSound (sym same) small_sound

pub returns : goal.returns
unfolding small_table
returns c =
    c.from_sound_parts.ensures ∙ ap table_from (small_from _ _ _ _ _ _ _ _ _ c.in_ok-small_folds.ensures c.in_ok-small_uppers.ensures c.in_ok-small_id_start.ensures
    c.in_ok-small_id_continue.ensures c.in_ok-small_general_category.ensures c.in_ok-small_script.ensures
    c.in_ok-small_script-2.ensures c.in_ok-small_binary.ensures c.in_ok-small_strings.ensures)
