-- The modules of `cells` that belong to no one function.
pub mod Slices
pub mod Fields
pub mod Parents
pub mod Laws
pub mod Example
pub mod Steps
pub mod Coding
pub mod Segments
pub mod Whole
pub mod Rows
pub mod Spaces
