-- Sums with a zero; when a pivot of three +0 gives the static Helmert step, of numbers and of
-- records; that step as request A4 asks for it; and known values.
pub mod Sums
pub mod Zero
pub mod Records
pub mod Asked
pub mod Examples
