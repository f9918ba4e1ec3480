-- What the proofs of this crate share, and the laws that callers cite.
pub mod Rebuildable
pub mod Rebuilding
pub mod Reading
pub mod Listing
pub mod Giving
pub mod Few
pub mod Whole
pub mod Laws
pub mod Examples
