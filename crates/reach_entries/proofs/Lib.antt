-- What the proofs of `reach_entries` share.
pub mod Fit
pub mod Keeping
