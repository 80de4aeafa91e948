-- The definition of the ordering, on plain lists: a file for each topic of document 01, which the comments quote. The ordering itself, down to `Ordering`, knows
-- no workspace, no place in one and no collection; of `Answers` only case 7 asks for two lengths. `Room` alone counts collections, for a room of a given size;
-- `Outcome` puts that count beside the ordering, and `Promise` says what a call leaves in each lent slice.
-- The order of the lines is the order of reading: each file uses those above it.
pub mod Limits
pub mod Threshold
pub mod Pattern
pub mod Answers
pub mod Cleaned
pub mod Neighbours
pub mod State
pub mod Pivot
pub mod Trim
pub mod Merge
pub mod Place
pub mod Elimination
pub mod Statistics
pub mod Tree
pub mod Ordering
pub mod Room
pub mod Outcome
pub mod Promise
pub mod Cholesky
pub mod Opened
