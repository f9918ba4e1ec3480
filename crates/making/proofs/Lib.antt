-- What the proofs of this crate share, and the laws that callers cite.
pub mod Few
pub mod Longer
pub mod FromBytes
pub mod Laws
