-- What the contracts of `helmert_columns` cite.
pub mod Given
