-- The sets are canonical, and the strings are nonempty.
use Rattle.std.proofs.Common.{map, length}
use Rattle.std.proofs.lemmas.Bool.{and_parts}
use Rattle.std.proofs.lemmas.List.Elements.{All-append}
use Rattle.regress_base.specs.Intervals.{IsCanonical}
use Rattle.regress_base.specs.Table.{HasCanonicalSets, HasStrings, HasWordAscii}
use Rattle.regress_properties.specs.declared.data.intervals.TheConstants.{INTERVALS}
use Rattle.regress_properties.specs.declared.data.names.TheConstants.{ID_START, ID_CONTINUE, GENERAL_CATEGORY, SCRIPT, SCRIPT_REST, SCRIPT_EXTENSIONS, SCRIPT_EXTENSIONS_REST, BINARY}
use Rattle.regress_properties.specs.Listed.{is_range_within, named_set}
use Rattle.regress_properties.specs.Properties.{unicode_id_start, unicode_id_continue, unicode_general_category, unicode_script, unicode_script_extensions, unicode_binary, unicode_strings}
use Rattle.regress_properties.proofs.ConstantsLemmas.{id_start, id_continue, start_ascii, continue_ascii, general_category, script, script_rest, script_extensions, script_extensions_rest, binary, valid_strings}
use Rattle.regress_properties.proofs.RangeLemmas.{canonical_sets}

pub id_start-canonical : IsCanonical unicode_id_start
unfolding unicode_id_start
id_start-canonical = (and_parts (is_range_within (length INTERVALS.now) ID_START.0 ID_START.1) _ id_start).1

pub id_continue-canonical : IsCanonical unicode_id_continue
unfolding unicode_id_continue
id_continue-canonical = (and_parts (is_range_within (length INTERVALS.now) ID_CONTINUE.0 ID_CONTINUE.1) _ id_continue).1

pub id_start-ascii : HasWordAscii unicode_id_start
unfolding unicode_id_start
id_start-ascii = start_ascii

pub id_continue-ascii : HasWordAscii unicode_id_continue
unfolding unicode_id_continue
id_continue-ascii = continue_ascii

pub general_category-canonical : HasCanonicalSets unicode_general_category
unfolding unicode_general_category
general_category-canonical = canonical_sets (λ name. name.now) INTERVALS.now GENERAL_CATEGORY.now general_category

pub script-canonical : HasCanonicalSets unicode_script
unfolding unicode_script
script-canonical =
    All-append (λ entry. IsCanonical entry.value) (map (λ n. named_set INTERVALS.now n.0.now n.1 n.2) SCRIPT.now)
    (map (λ n. named_set INTERVALS.now n.0.now n.1 n.2) SCRIPT_REST.now) (canonical_sets (λ name. name.now) INTERVALS.now SCRIPT.now script)
    (canonical_sets (λ name. name.now) INTERVALS.now SCRIPT_REST.now script_rest)

pub script_extensions-canonical : HasCanonicalSets unicode_script_extensions
unfolding unicode_script_extensions
script_extensions-canonical =
    All-append (λ entry. IsCanonical entry.value) (map (λ n. named_set INTERVALS.now n.0.now n.1 n.2) SCRIPT_EXTENSIONS.now)
    (map (λ n. named_set INTERVALS.now n.0.now n.1 n.2) SCRIPT_EXTENSIONS_REST.now)
    (canonical_sets (λ name. name.now) INTERVALS.now SCRIPT_EXTENSIONS.now script_extensions)
    (canonical_sets (λ name. name.now) INTERVALS.now SCRIPT_EXTENSIONS_REST.now script_extensions_rest)

pub binary-canonical : HasCanonicalSets unicode_binary
unfolding unicode_binary
binary-canonical = canonical_sets (λ name. name.now) INTERVALS.now BINARY.now binary

pub strings-valid : HasStrings unicode_strings
unfolding unicode_strings
strings-valid = valid_strings
