-- What the contracts of `grid_rules` cite.
pub mod Layout
pub mod Rules
pub mod Patterns
