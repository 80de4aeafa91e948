-- The definitions that the contracts of `pattern` cite.
pub mod Reach
pub mod Model
pub mod Cursors
pub mod Columned
pub mod Lists
