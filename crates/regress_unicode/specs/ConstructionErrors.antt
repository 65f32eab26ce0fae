-- The errors of `Tables::new`: when each applies, and which one is returned.
use Rattle.std.specs.Prelude.{ℕ, ◌<◌, List, IsTrue}
use Rattle.regress_unicode.specs.declared.tables_error.Which.{Which}
use Rattle.regress_unicode.specs.declared.tables_error.Which.TheVariants.{Fold, Upper}
use Rattle.regress_unicode.specs.declared.tables_error.TablesError.{TablesError}
use Rattle.regress_unicode.specs.declared.tables_error.TablesError.TheVariants.{RangeOrder, TargetOutOfRange, NotIdempotent, ClassTooLarge, IdentifierPunctuation, BadString, Memory}
use Rattle.regress_unicode.specs.FoldEntries.{FoldEntry, mapped}
use Rattle.regress_unicode.specs.ValidEntries.{is_in_order, are_targets_in_range}
use Rattle.regress_base.specs.Table.{IsIdempotent, HasSmallClasses, HasWordAscii, HasStrings}
use Rattle.regress_unicode.specs.Parts.{Parts}

-- the entries of a case mapping
abbrev pub mappings_of : Parts → Which → List FoldEntry
mappings_of parts Fold = parts.folds
mappings_of parts Upper = parts.uppers

-- The condition on the parts under which the error does not apply. `Memory` depends on the allocator alone.
abbrev pub Meets : Parts → TablesError → Type 0
Meets parts (RangeOrder which) = IsTrue (is_in_order (mappings_of parts which))
Meets parts (TargetOutOfRange which) = IsTrue (are_targets_in_range (mappings_of parts which))
Meets parts (NotIdempotent which) = IsIdempotent (mapped (mappings_of parts which))
Meets parts (ClassTooLarge which) = HasSmallClasses (mapped (mappings_of parts which))
Meets parts IdentifierPunctuation = HasWordAscii parts.id_start × HasWordAscii parts.id_continue
Meets parts BadString = HasStrings parts.strings
Meets parts (Memory error) = Unit {0}

-- the position of an error in the order of the tests
abbrev pub position : TablesError → ℕ
position (RangeOrder Fold) = 0
position (RangeOrder Upper) = 1
position (TargetOutOfRange Fold) = 2
position (TargetOutOfRange Upper) = 3
position (NotIdempotent Fold) = 4
position (NotIdempotent Upper) = 5
position (ClassTooLarge Fold) = 6
position (ClassTooLarge Upper) = 7
position IdentifierPunctuation = 8
position BadString = 9
position (Memory error) = 10

-- The error applies, and no error before it does.
pub record IsFirstError (parts : Parts) (rejection : TablesError) : Type 0 where
  pub due : ¬ Meets parts rejection
  pub before : (other : TablesError) → position other < position rejection → Meets parts other
