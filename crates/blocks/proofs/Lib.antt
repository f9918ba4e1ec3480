-- What is true of blocks, and the laws that loops over them are proved by, for callers.
pub mod Each
pub mod Laws
pub mod Over
pub mod Counts
pub mod All
