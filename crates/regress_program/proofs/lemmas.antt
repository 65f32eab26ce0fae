-- Lemmas about the definitions of this crate, for use by other crates.
pub mod Agreement
pub mod Ahead
pub mod Below
pub mod Blocks
pub mod Costs
pub mod Instructions
pub mod Onward
pub mod Places
pub mod Reasons
pub mod Solutions
pub mod Strict
pub mod Tidy
pub mod Totals
pub mod Unset
