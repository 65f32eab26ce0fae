-- The small table is valid.
use Rattle.std.proofs.Common.{◌≡◌, ℕ, IsTrue, List, String, Vec, Global, refl}
use Rattle.std.specs.List.{list_all}
use Rattle.std.proofs.lemmas.List.Sums.{AllPass-from_list_all}
use Rattle.regress_base.specs.Intervals.{Bounds, is_canonical_from}
use Rattle.regress_unicode.specs.FoldEntries.{FoldEntry, mapped}
use Rattle.regress_base.specs.Table.{Named, HasCanonicalSets}
use Rattle.regress_unicode.specs.Parts.{parts_from, sets_of, strings_of}
use Rattle.regress_unicode.specs.ValidEntries.{AreValidEntries, IsSound}
use Rattle.regress_unicode.specs.SmallTable.{small_folds, small_uppers, small_parts}
use Rattle.regress_unicode.proofs.lemmas.Soundness.{sound_mappings, sound_from}
use Rattle.regress_properties.proofs.lemmas.Identifiers.{word_ascii}

sound_folds : AreValidEntries small_folds
unfolding mapped
sound_folds = sound_mappings small_folds refl refl refl

sound_uppers : AreValidEntries small_uppers
unfolding mapped
sound_uppers = sound_mappings small_uppers refl refl refl

canonical_sets : (entries : List (Named (List Bounds))) → IsTrue (list_all (λ entry. is_canonical_from 0 entry.value) entries) →
    HasCanonicalSets entries
canonical_sets entries h = AllPass-from_list_all (λ entry. is_canonical_from 0 entry.value) entries h

pub small_sound : IsSound small_parts
small_sound =
    sound_from small_parts sound_folds sound_uppers refl refl
    (word_ascii small_parts.id_start refl) (word_ascii small_parts.id_continue refl)
    (canonical_sets small_parts.general_category refl) (canonical_sets small_parts.script refl)
    (canonical_sets small_parts.script_extensions refl) (canonical_sets small_parts.binary refl)
    refl

-- lists with the contents of the small table make its parts
pub small_from : (folds uppers : List FoldEntry) (id_start id_continue : List Bounds)
    (general_category script script_extensions binary : List (String Global × List Bounds))
    (strings : List (String Global × Vec (Vec ℕ Global) Global)) →
    folds ≡ small_folds → uppers ≡ small_uppers → id_start ≡ small_parts.id_start → id_continue ≡ small_parts.id_continue →
    sets_of general_category ≡ small_parts.general_category → sets_of script ≡ small_parts.script →
    sets_of script_extensions ≡ small_parts.script_extensions →
    sets_of binary ≡ small_parts.binary → strings_of strings ≡ small_parts.strings →
    parts_from folds uppers id_start id_continue general_category script script_extensions binary strings ≡ small_parts
small_from folds uppers id_start id_continue general_category script script_extensions binary strings e1 e2 e3 e4 e5 e6 e7 e8 e9 =
    rw (e1, e2, e3, e4, e5, e6, e7, e8, e9)
