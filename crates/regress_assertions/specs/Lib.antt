pub mod Characters
pub mod Edges
pub mod Holding
pub mod Marks
pub mod Never
