-- Laws that the proofs of `ordering` use. None belongs to a function.
pub mod Roomy
pub mod Cut
pub mod Theorem
pub mod Steps
pub mod Leaving
pub mod Calls
