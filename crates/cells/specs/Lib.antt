-- The definitions that the contracts of `cells` cite.
pub mod Layout
pub mod View
pub mod Rows
pub mod Links
pub mod Field
pub mod Space
