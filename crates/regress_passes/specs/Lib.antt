pub mod Sweep
pub mod Passes
pub mod Emptied
pub mod Flatten
pub mod Joined
pub mod Promote
pub mod Unrolled
