-- What the contracts of `hypot_block` cite.
pub mod Block
