-- What the proofs of `grid_entries` share.
pub mod Fit
