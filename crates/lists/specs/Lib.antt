-- What the contracts of `lists` cite.
pub mod Flat
pub mod Run
pub mod Sixteen
