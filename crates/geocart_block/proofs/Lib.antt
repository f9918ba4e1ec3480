-- Laws, for callers.
pub mod Parts
