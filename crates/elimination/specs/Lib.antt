-- The definitions that the contracts of `elimination` cite.
pub mod Met
pub mod Turn
pub mod Model
pub mod Runs
