pub mod Beyond
pub mod Sixteen
