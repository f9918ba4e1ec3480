-- Document 01's marked points as one statement.
pub mod MarkedPoints
