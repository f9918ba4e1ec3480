-- What the proofs of this crate share, and the laws that callers cite.
pub mod Fit
pub mod Whole
pub mod Adding
pub mod Keeping
pub mod Mending
