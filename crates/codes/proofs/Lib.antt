-- The laws of `codes`.
pub mod Counts
pub mod Clear
