-- What the contracts of `thin` cite: a step over a list of tuple records, the step made ready for
-- it, and a sheet's steps one after another.
pub mod Tuples
pub mod Plans
pub mod Sheets
