pub mod Printed
pub mod Ending
