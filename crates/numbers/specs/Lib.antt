pub mod Meaning
pub mod Gains
