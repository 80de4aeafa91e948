-- The laws behind the proofs of `probe`.
pub mod Cells
