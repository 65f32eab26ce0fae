pub mod Violated
