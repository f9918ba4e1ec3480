-- What the contracts of `deformation_grid` and of the loops over it cite.
pub mod Gridded
pub mod Found
