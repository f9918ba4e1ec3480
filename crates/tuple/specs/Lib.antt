-- What the contracts of `tuple` cite.
pub mod Sums
pub mod Columns
