-- What the contracts of `windows` cite: plans in an array, over a list.
pub mod Steps
