-- The vocabulary of plain lists.
pub mod Lists
pub mod Members
pub mod Permutations
pub mod Turns
pub mod Classes
pub mod Opened
