-- What the contracts of `fields` cite.
pub mod Words
pub mod Fields
