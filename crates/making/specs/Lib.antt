-- What the contracts of `making` cite; and steps added one after another.
pub mod Adding
pub mod InTurn
