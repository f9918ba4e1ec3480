-- What the contracts of `plans` cite: a step made ready, and steps over a part of a list.
pub mod Lent
pub mod Passes
pub mod Plans
pub mod Windows
