-- What the contract of `hypot` cites.
pub mod Hypot
