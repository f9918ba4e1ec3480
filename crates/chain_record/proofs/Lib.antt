-- What the proofs of this crate share, and the law that a sheet's bytes and its record agree.
mod Few
pub mod Agree
pub mod Plans
