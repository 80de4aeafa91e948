-- What the memory and the numbers of a turn hold of a state, and what the whole elimination leaves.
pub mod Standing
pub mod Result
