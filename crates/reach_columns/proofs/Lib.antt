pub mod Along
pub mod Times
