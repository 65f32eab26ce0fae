-- Properties of the constants, by computation.
use Rattle.std.proofs.Common.{◌≡◌, IsTrue, map, length, refl}
use Rattle.regress_base.specs.Table.{HasWordAscii, HasStrings}
use Rattle.regress_properties.specs.declared.data.intervals.TheConstants.{INTERVALS, INTERVALS_COUNT}
use Rattle.regress_properties.specs.declared.data.names.TheConstants.{ID_START, ID_CONTINUE, GENERAL_CATEGORY, SCRIPT, SCRIPT_REST, SCRIPT_EXTENSIONS, SCRIPT_EXTENSIONS_REST, BINARY}
use Rattle.regress_properties.specs.declared.data.strings.TheConstants.{STRING_NAMES, STRINGS, STRINGS_COUNT, POINTS, POINTS_COUNT}
use Rattle.regress_properties.specs.Listed.{set_at, is_set_at, named_strings, AreSets, AreStrings}
use Rattle.regress_properties.proofs.RangeLemmas.{set_is_valid_at, sets_occur, strings_are_valid_at, are_strings}
use Rattle.regress_properties.proofs.lemmas.Identifiers.{word_ascii}

intervals_count : length INTERVALS.now ≡ INTERVALS_COUNT
intervals_count = refl

pub id_start : IsTrue (is_set_at INTERVALS.now ID_START.0 ID_START.1)
id_start = set_is_valid_at INTERVALS.now INTERVALS_COUNT ID_START.0 ID_START.1 intervals_count refl

pub id_continue : IsTrue (is_set_at INTERVALS.now ID_CONTINUE.0 ID_CONTINUE.1)
id_continue = set_is_valid_at INTERVALS.now INTERVALS_COUNT ID_CONTINUE.0 ID_CONTINUE.1 intervals_count refl

pub start_ascii : HasWordAscii (set_at INTERVALS.now ID_START.0 ID_START.1)
start_ascii = word_ascii (set_at INTERVALS.now ID_START.0 ID_START.1) refl

pub continue_ascii : HasWordAscii (set_at INTERVALS.now ID_CONTINUE.0 ID_CONTINUE.1)
continue_ascii = word_ascii (set_at INTERVALS.now ID_CONTINUE.0 ID_CONTINUE.1) refl

pub general_category : AreSets INTERVALS.now (map (λ n. (n.1, n.2)) GENERAL_CATEGORY.now)
general_category = sets_occur INTERVALS.now (map (λ n. (n.1, n.2)) GENERAL_CATEGORY.now) INTERVALS_COUNT intervals_count refl

pub script : AreSets INTERVALS.now (map (λ n. (n.1, n.2)) SCRIPT.now)
script = sets_occur INTERVALS.now (map (λ n. (n.1, n.2)) SCRIPT.now) INTERVALS_COUNT intervals_count refl

pub script_rest : AreSets INTERVALS.now (map (λ n. (n.1, n.2)) SCRIPT_REST.now)
script_rest = sets_occur INTERVALS.now (map (λ n. (n.1, n.2)) SCRIPT_REST.now) INTERVALS_COUNT intervals_count refl

pub script_extensions : AreSets INTERVALS.now (map (λ n. (n.1, n.2)) SCRIPT_EXTENSIONS.now)
script_extensions = sets_occur INTERVALS.now (map (λ n. (n.1, n.2)) SCRIPT_EXTENSIONS.now) INTERVALS_COUNT intervals_count refl

pub script_extensions_rest : AreSets INTERVALS.now (map (λ n. (n.1, n.2)) SCRIPT_EXTENSIONS_REST.now)
script_extensions_rest = sets_occur INTERVALS.now (map (λ n. (n.1, n.2)) SCRIPT_EXTENSIONS_REST.now) INTERVALS_COUNT intervals_count refl

pub binary : AreSets INTERVALS.now (map (λ n. (n.1, n.2)) BINARY.now)
binary = sets_occur INTERVALS.now (map (λ n. (n.1, n.2)) BINARY.now) INTERVALS_COUNT intervals_count refl

pub strings : AreStrings STRINGS.now POINTS.now (map (λ n. (n.1, n.2)) STRING_NAMES.now)
strings = strings_are_valid_at STRINGS.now POINTS.now (map (λ n. (n.1, n.2)) STRING_NAMES.now) STRINGS_COUNT POINTS_COUNT refl refl refl

points_count : length POINTS.now ≡ POINTS_COUNT
points_count = refl

pub valid_strings : HasStrings (map (λ n. named_strings STRINGS.now POINTS.now n.0.now n.1 n.2) STRING_NAMES.now)
valid_strings = are_strings (λ name. name.now) STRINGS.now POINTS.now POINTS_COUNT points_count refl refl STRING_NAMES.now
