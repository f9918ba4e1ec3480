-- Known values.
pub mod Examples
