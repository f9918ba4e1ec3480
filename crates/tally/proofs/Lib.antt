-- What the proofs of `tally` share, and the laws that callers cite.
pub mod Laws
