-- What the proofs of this crate share, and the laws that callers cite.
pub mod Laws
pub mod Examples
pub mod Powers
