-- The modules of `pattern` that belong to no one function.
pub mod Reaching
pub mod Scans
pub mod Cursor
pub mod Unwritten
pub mod Traversal
pub mod Writing
pub mod Building
pub mod Visiting
pub mod Transposing
pub mod Copying
pub mod Source
pub mod Taking
pub mod Example
