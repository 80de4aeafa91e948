-- What the promise settles. None belongs to a function.
pub mod Only
pub mod Left
pub mod Demand
pub mod Inputs
pub mod Shams
pub mod Caught
