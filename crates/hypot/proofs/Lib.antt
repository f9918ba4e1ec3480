-- What the proofs of this crate share, and the laws that callers cite.
mod Squares
mod Signless
pub mod Laws
mod Examples
