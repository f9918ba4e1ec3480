-- What the contracts of `kept_columns_reach` cite.
pub mod Reach
