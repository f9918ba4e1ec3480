-- What the contracts of `text` cite.
pub mod Text
pub mod Digits
pub mod Ascii
