-- What the contracts of `grid_c` cite.
pub mod Steps
