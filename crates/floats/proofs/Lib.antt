-- What the proofs of this crate share, and the laws that callers cite.
pub mod Zero
pub mod Nan
pub mod Values
pub mod Finite
pub mod Laws
pub mod Examples
