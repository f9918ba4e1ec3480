-- What the contracts of `show` cite.
pub mod Show
