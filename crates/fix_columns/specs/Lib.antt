-- What the contracts of `fix_columns` cite.
pub mod Fixes
