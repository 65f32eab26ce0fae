pub mod Encoding
pub mod Decoded
pub mod Order
pub mod Closed
