-- What the proofs of this crate share, and the laws that callers cite.
mod Match
pub mod Parts
pub mod Laws
mod Examples
