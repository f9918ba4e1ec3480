-- What the contracts of `helmert_running_columns` cite.
pub mod Lanes
