-- The definitions that the contracts of `opening` cite.
pub mod Aside
pub mod Start
pub mod Begin
pub mod Order
