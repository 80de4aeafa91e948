-- The definitions that the contracts of `trimming` cite.
pub mod Merged
pub mod Model
pub mod Step
