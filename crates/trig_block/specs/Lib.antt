-- What the contracts of `trig_block` cite.
pub mod Block
