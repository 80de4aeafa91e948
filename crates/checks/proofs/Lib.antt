-- Laws that the proofs of the checks share. None belongs to a function.
pub mod Orders
pub mod Slices
pub mod Accepted
pub mod Faults
