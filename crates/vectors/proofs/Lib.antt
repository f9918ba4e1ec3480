-- What the proofs of `vectors` share.
pub mod Turns
