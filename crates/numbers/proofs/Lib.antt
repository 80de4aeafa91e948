-- The order of the lines is the order of reading: each file uses those above it.
pub mod Fixed
pub mod Exact
pub mod Rules
pub mod Multipliers
pub mod Squares
pub mod Ops
pub mod Bounds
pub mod Signed
pub mod Growth
pub mod Totals
pub mod Rooms
