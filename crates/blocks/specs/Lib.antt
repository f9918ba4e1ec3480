-- What contracts over blocks cite.
pub mod Each
