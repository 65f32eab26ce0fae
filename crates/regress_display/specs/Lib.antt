-- re-exports what the public contract cites from another crate
pub mod Ending
pub mod Fault
pub mod Request
pub mod Shown
pub use Rattle.regress_arguments.specs.Output
