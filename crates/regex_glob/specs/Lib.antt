pub mod Glob
pub mod Row
