-- What the contracts of `sheet` cite: where a sheet's words and bodies stand, and the rules by
-- their numbers; and when a refusal is given, in words.
pub mod Layout
pub mod Rules
pub mod Given
