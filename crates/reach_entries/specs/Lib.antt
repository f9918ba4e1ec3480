-- What the contracts of `reach_entries` cite.
pub mod Codes
