pub mod Answers
pub mod ExactlyWhen
pub mod Promises
pub mod MarkedPoints
