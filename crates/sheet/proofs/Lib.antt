-- What the proofs of this crate share, and the laws that callers cite.
pub mod Order
pub mod Unless
pub mod Entries
pub mod Examples
pub mod Each
pub mod Accepted
pub mod Tides
pub mod Back
pub mod Laws
