-- What the contract of `badekas_entries` cites.
pub mod Made
