-- The definitions that the contracts and the theorems of `chain` cite.
pub mod Model
pub mod Chained
pub mod First
