-- What the contracts of `permtide_columns` cite.
pub mod Heights
