-- What the contracts and theorems of `badekas` cite: the record, its rules, its prepared shift, and
-- the numbers of a step before and after each addition.
pub mod Record
pub mod Rules
pub mod Step
pub mod Asked
