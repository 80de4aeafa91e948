-- What the contracts of `ordering` cite.
pub mod Left
pub mod Course
pub mod Meets
