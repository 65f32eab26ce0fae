pub mod Excerpt
