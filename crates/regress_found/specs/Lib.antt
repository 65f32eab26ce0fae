pub mod Found
pub mod Repeated
pub mod Results
pub mod Tried
