pub mod Template
pub mod Parsed
pub mod Expansion
pub mod Order
pub mod Replaced
pub mod Split
