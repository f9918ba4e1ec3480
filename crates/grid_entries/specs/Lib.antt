-- What the contracts of `grid_entries` cite.
pub mod Codes
