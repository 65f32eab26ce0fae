pub mod Children
pub mod Paired
pub mod Remarks
-- re-exports what the public contracts cite from other crates, so that a caller names one library
pub use Rattle.regress_lexer.specs.Dialects
pub use Rattle.regress_syntax.specs.Meaning
pub use Rattle.regress_parse.specs.Accepted
pub use Rattle.regress_parse.specs.Fault
pub use Rattle.regress_parse.specs.Settled
pub use Rattle.regress_parse.specs.TreeOf
pub use Rattle.regress_parse.specs.Spans
