-- What the contracts of `arrays` cite.
pub mod Arrays
