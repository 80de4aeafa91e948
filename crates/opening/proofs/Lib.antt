-- The modules of `opening` that belong to no one function.
pub mod Rows
pub mod Opening
pub mod Shown
pub mod Gathering
pub mod Pivoting
pub mod Turns
