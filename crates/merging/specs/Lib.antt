-- The definitions that the contracts and the theorems of `merging` cite.
pub mod Tally
pub mod Model
pub mod Rows
