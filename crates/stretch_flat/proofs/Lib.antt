pub mod Fit
pub mod Again
pub mod Shifting
