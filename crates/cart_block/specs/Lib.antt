-- What the contracts of `cart_block` cite.
pub mod Blocks
