-- The properties of Unicode, from the constants.
use Rattle.std.specs.Prelude.{ℕ, List, map, ◌++◌}
use Rattle.regress_base.specs.Intervals.{Bounds}
use Rattle.regress_base.specs.Table.{Named}
use Rattle.regress_properties.specs.declared.data.intervals.TheConstants.{INTERVALS}
use Rattle.regress_properties.specs.declared.data.names.TheConstants.{ID_START, ID_CONTINUE, GENERAL_CATEGORY, SCRIPT, SCRIPT_REST, SCRIPT_EXTENSIONS, SCRIPT_EXTENSIONS_REST, BINARY}
use Rattle.regress_properties.specs.declared.data.strings.TheConstants.{STRING_NAMES, STRINGS, POINTS}
use Rattle.regress_properties.specs.Listed.{set_at, named_set, named_strings}

-- the characters that can begin an identifier
unfoldable pub unicode_id_start : List Bounds
unicode_id_start = set_at INTERVALS.now ID_START.0 ID_START.1

-- the characters that can continue an identifier
unfoldable pub unicode_id_continue : List Bounds
unicode_id_continue = set_at INTERVALS.now ID_CONTINUE.0 ID_CONTINUE.1

-- the general categories, each under all of its names
unfoldable pub unicode_general_category : List (Named (List Bounds))
unicode_general_category = map (λ n. named_set INTERVALS.now n.0.now n.1 n.2) GENERAL_CATEGORY.now

-- the scripts
unfoldable pub unicode_script : List (Named (List Bounds))
unicode_script =
    map (λ n. named_set INTERVALS.now n.0.now n.1 n.2) SCRIPT.now
    ++ map (λ n. named_set INTERVALS.now n.0.now n.1 n.2) SCRIPT_REST.now

-- the script extensions
unfoldable pub unicode_script_extensions : List (Named (List Bounds))
unicode_script_extensions =
    map (λ n. named_set INTERVALS.now n.0.now n.1 n.2) SCRIPT_EXTENSIONS.now
    ++ map (λ n. named_set INTERVALS.now n.0.now n.1 n.2) SCRIPT_EXTENSIONS_REST.now

-- the binary properties
unfoldable pub unicode_binary : List (Named (List Bounds))
unicode_binary = map (λ n. named_set INTERVALS.now n.0.now n.1 n.2) BINARY.now

-- the properties of strings
unfoldable pub unicode_strings : List (Named (List (List ℕ)))
unicode_strings = map (λ n. named_strings STRINGS.now POINTS.now n.0.now n.1 n.2) STRING_NAMES.now
