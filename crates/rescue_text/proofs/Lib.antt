-- What the proofs of this crate share, and known lines.
pub mod Lines
pub mod Examples
