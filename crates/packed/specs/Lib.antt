-- The definitions that the contracts of `packed` cite.
pub mod Places
pub mod Model
pub mod Reading
pub mod Tray
pub mod Ends
pub mod Made
pub mod Gather
