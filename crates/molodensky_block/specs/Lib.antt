-- What the contracts of `molodensky_block` cite.
pub mod Block
