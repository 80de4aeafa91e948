-- What the contracts of `probe` cite.
pub mod Told
