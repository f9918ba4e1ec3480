pub mod Places
pub mod Laws
pub mod Results
pub mod Sixteen
