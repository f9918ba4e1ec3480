pub mod Later
pub mod Both
