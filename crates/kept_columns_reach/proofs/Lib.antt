-- What the proofs of `kept_columns_reach` share.
pub mod Rows
