-- From the elimination's models to the definition.
pub mod Begun
pub mod Trims
pub mod Merges
pub mod Places
pub mod After
pub mod Elements
pub mod Free
pub mod Stands
pub mod Loop
pub mod Starts
pub mod Ends
pub mod Finished
