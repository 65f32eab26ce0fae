pub mod Page
pub mod Shown
pub mod Written
