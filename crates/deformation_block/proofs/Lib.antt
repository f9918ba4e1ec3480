-- What a block of tuples is proved by.
pub mod Laws
