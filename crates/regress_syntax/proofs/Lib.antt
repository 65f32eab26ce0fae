pub mod lemmas
mod ConflictLemmas
mod FirstErrorsLemmas
mod NameLemmas
mod NumberingLemmas
mod OrderLemmas
mod PlaceLemmas
mod PathLemmas
mod ReferenceLemmas
mod ScanClasses
mod ScanLemmas
mod ScanProductions
mod ScanSets
mod ScannerLemmas
