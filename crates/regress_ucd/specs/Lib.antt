pub mod Data
pub mod UnicodeTable
