-- What the memory holds of the definition's state.
pub mod Drawn
pub mod Flags
pub mod Log
pub mod Buckets
