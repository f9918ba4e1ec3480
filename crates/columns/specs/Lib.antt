-- What the contracts of `columns` cite.
pub mod Columns
pub mod Passed
