pub mod Letters
pub mod Output
pub mod Request
