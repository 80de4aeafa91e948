-- The definitions that the contracts of `tree` cite.
pub mod Class
pub mod Model
pub mod Hanging
pub mod Final
