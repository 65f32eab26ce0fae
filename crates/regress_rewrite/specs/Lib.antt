pub mod Law
pub mod Taken
pub mod Splice
pub mod Formed
pub mod Simplify
pub mod Unroll
