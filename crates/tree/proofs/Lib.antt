-- The modules of `tree` that belong to no one function.
pub mod Sheet
pub mod Touring
pub mod Threads
pub mod Largest
pub mod Owners
pub mod Ready
pub mod Kin
pub mod Prepared
pub mod Grove
pub mod Written
pub mod Finished
pub mod Example
