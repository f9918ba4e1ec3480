-- What the proofs of `kept_reach` share, and the law that a fresh run's number is the sum of what
-- stands before, in and after a stretch.
pub mod Along
pub mod Stretch
pub mod Sum
