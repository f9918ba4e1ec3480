-- What the contracts of `codes` cite.
pub mod Codes
