-- What the proofs of this crate share, and the laws that callers cite.
pub mod Patterns
pub mod Laws
