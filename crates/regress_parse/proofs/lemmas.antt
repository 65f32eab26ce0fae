-- Lemmas on this crate's definitions, for the crates above.
pub mod Scanned
-- Lemmas on the groups of a pattern. Their comments are where they are proved.
pub use Rattle.regress_parse.proofs.GroupLemmas.{length-names, length-pattern_groups, permuted-tree_of}
