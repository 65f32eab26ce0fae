pub mod Joined
pub mod Patterns
pub mod Remarks
pub mod Printed
pub mod Size
