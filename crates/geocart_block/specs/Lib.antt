-- What the contracts of `geocart_block` cite.
pub mod Blocks
