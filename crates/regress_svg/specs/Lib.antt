pub mod Escape
pub mod Links
pub mod Markup
