-- What the proofs of this crate share, and the laws that callers cite.
pub mod Answers
pub mod GridAnswers
pub mod Laws
pub mod GridLaws
