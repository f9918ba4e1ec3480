-- What the contracts of `floats` cite.
pub mod Binary64
pub mod Number
