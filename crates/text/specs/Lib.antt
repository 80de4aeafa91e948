-- What the contracts of `text` cite.
pub mod Numerals
pub mod Printed
