-- What the contracts of `deformation_block` cite.
pub mod Places
