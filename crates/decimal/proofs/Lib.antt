-- What the proofs of this crate share, and the laws that callers cite.
pub mod Tens
pub mod Search
pub mod Laws
pub mod Near
pub mod ClosestWhole
pub mod Fewest
pub mod Examples
