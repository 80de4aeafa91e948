-- The laws of `placing` that belong to no one function.
pub mod Restoring
pub mod Survivors
pub mod Element
pub mod Becoming
pub mod Whole
pub mod Finish
