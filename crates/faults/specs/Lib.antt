-- What the contracts of `faults` cite.
pub mod Faults
