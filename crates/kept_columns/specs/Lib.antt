-- What the contracts of `kept_columns` cite.
pub mod Columns
