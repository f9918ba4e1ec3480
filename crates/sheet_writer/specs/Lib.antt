-- What the contracts of `sheet_writer` cite: the bytes that are written, and the rules of a record;
-- and what its round trips speak of.
pub mod Bytes
pub mod Rules
pub mod SameSheet
