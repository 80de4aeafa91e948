-- The laws of `chain` that belong to no one function.
pub mod Steps
pub mod Turn
pub mod Frame
pub mod Push
pub mod Unlink
pub mod Fronts
pub mod Search
pub mod Leave
pub mod Alike
pub mod Opening
