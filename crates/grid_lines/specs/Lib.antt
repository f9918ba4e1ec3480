-- What the contracts of `grid_lines` cite.
pub mod Lines
