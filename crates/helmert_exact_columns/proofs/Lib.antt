-- The laws of `helmert_exact_columns`.
pub mod Laws
