-- What the contracts of the exported functions cite.
pub mod Codes
pub mod Told
pub mod Records
