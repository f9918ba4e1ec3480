-- What the contracts of `closure_entries` cite.
pub mod Told
