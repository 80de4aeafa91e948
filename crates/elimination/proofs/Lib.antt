-- The modules of `elimination` that belong to no one function.
pub mod Steps
