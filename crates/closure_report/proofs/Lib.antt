-- What the proofs of this crate share, and the laws that callers cite.
pub mod Turns
pub mod Telling
pub mod Laws
pub mod Examples
