-- The definitions that the contracts of `sizing` cite, and what its laws say of the marks.
pub mod Model
pub mod Counters
pub mod Sizes
pub mod Outside
