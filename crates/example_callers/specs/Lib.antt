pub mod Least
pub mod Listed
pub mod MatchedText
pub mod Nested
pub mod Remarks
