-- What the proofs of this crate share, and known values.
pub mod Steps
pub mod Examples
