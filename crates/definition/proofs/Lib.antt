-- Theorems by computation about the definition, and what the threshold's start is. None belongs to a function.
pub mod Root
pub mod Problems
pub mod Settled
pub mod Adjacency
pub mod Thresholds
pub mod Refusals
pub mod Filled
pub mod Compared
