-- What the contracts of `closure_answer` cite.
pub mod Answer
