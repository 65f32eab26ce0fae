pub mod Json
pub mod Passed
