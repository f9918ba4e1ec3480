-- What serves the proofs of the blocks.
pub mod Block
