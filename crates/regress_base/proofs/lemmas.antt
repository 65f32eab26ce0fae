pub mod Sets
pub mod Listings
pub mod Literals
pub mod Members
