-- What loops over blocks reach.
pub mod Parts
