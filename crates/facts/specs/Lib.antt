-- What theorems about the elimination speak of: its invariant, and what is remembered of a run beside it.
pub mod Invariant
pub mod Counter
pub mod History
pub mod Past
pub mod Accepted
pub mod Classes
pub mod Reading
pub mod Opened
