-- What the contract of `atan2` cites; and what the laws of its cases speak of.
pub mod Table
pub mod Arctan
pub mod Cases
