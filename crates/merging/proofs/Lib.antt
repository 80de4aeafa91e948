-- The modules of `merging` that belong to no one function.
pub mod Walks
pub mod Marks
pub mod Joins
pub mod Logs
pub mod Rows
pub mod Walked
pub mod Kept
pub mod Ran
pub mod Light
pub mod Counted
pub mod Emptied
pub mod Theorem
pub mod Survivors
