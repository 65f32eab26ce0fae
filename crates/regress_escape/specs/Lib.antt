pub mod Escape
pub mod Literals
