-- What the contracts of `kept_reach` cite.
pub mod Reach
