-- Laws of what the memory holds. None belongs to a function.
pub mod Buckets
