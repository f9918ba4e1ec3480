-- What the contracts of `answer` cite; and P1's text.
pub mod Answer
pub mod MarkedPoints
