-- What the contracts of `arctan_block` cite.
pub mod Block
