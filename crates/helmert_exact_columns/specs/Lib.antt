-- What the contracts of `helmert_exact_columns` cite.
pub mod Exact
