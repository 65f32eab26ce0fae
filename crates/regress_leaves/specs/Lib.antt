pub mod Known
pub mod Leaves
pub mod Starts
pub mod Subject
