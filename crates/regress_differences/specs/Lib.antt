pub mod CaseMode
pub mod InEcma
pub mod Kinds
pub mod Reported
pub mod Views
-- re-exports what the public contract cites from other crates, so that a caller names one library
pub use Rattle.regress_syntax.specs.Meaning
pub use Rattle.regress_parse.specs.Accepted
pub use Rattle.regress_parse.specs.Fault
pub use Rattle.regress_parse.specs.Settled
pub use Rattle.regress_parse.specs.Spans
pub use Rattle.regress_parse.specs.TreeOf
pub use Rattle.regress_spans.specs.Paired
pub use Rattle.regress_spans.specs.Remarks
pub use Rattle.regress_ecma.specs.Compared
