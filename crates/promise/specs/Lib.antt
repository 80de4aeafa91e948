-- What the promise `after` settles, and the shams that it must keep out.
-- The order of the lines is the order of reading: each file uses those above it.
pub mod Demand
pub mod Shams
pub mod Opened
