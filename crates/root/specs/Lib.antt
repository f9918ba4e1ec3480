-- What the contracts of `root` cite. `Sqrt` is what a caller reads; `Whole` serves the functions
-- inside.
pub mod Sqrt
pub mod Whole
