pub mod Assignment
pub mod Colors
pub mod Given
pub mod Plain
pub mod Reading
pub mod Request
pub mod Table
