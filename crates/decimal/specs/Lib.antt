-- What the contracts of `decimal` cite.
pub mod Places
