pub mod Listed
pub mod Properties
