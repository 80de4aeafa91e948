-- The laws behind the proofs of `text`.
pub mod Signs
pub mod Walks
pub mod Counts
pub mod Parts
pub mod Inputs
pub mod Spaces
