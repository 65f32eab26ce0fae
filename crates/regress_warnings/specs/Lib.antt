pub mod Kinds
pub mod Alternatives
pub mod Empty
pub mod Digits
pub mod Classes
pub mod Written
pub mod Warned
pub mod Walked
-- re-exports what the public contract cites from other crates, so that a caller names one library
pub use Rattle.regress_syntax.specs.Meaning
pub use Rattle.regress_parse.specs.Accepted
pub use Rattle.regress_parse.specs.Fault
pub use Rattle.regress_parse.specs.Settled
pub use Rattle.regress_parse.specs.Spans
pub use Rattle.regress_spans.specs.Paired
pub use Rattle.regress_spans.specs.Remarks
