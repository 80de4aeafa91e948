-- The definitions that the contracts and the theorems of `placing` cite.
pub mod Model
