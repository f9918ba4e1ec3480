-- What the proofs of `root` share; `Laws` is for callers.
pub mod Squares
pub mod Patterns
pub mod Rounded
pub mod Laws
pub mod Examples
