-- The modules of `sizing` that belong to no one function.
pub mod Counting
pub mod Marks
pub mod Measuring
pub mod Weighing
pub mod Keeping
pub mod Externals
pub mod Raising
pub mod Example
