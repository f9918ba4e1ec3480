-- What the contracts of `reach` cite.
pub mod Met
