-- The laws of a step and of a sheet over tuple records, and the theorem that they are the flat
-- entries' on the same numbers.
pub mod Laws
pub mod Flat
