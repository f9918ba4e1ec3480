-- What the proof of `badekas_entries` uses.
pub mod Adding
