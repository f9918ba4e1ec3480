-- What a turn of sixteen tuples leaves, and the laws that callers and readers cite.
pub mod Columns
pub mod Counts
pub mod Signs
