-- What the proofs of this crate share, and the laws that callers cite.
pub mod Writing
pub mod WriterOrder
pub mod SameBytes
pub mod Forth
pub mod Laws
