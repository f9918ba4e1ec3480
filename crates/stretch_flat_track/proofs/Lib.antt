pub mod Windows
pub mod Again
