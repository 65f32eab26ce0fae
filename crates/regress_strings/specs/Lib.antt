pub mod Contents
pub mod Keys
pub mod Links
pub mod Order
pub mod Ordered
pub mod Pairs
pub mod Strings
