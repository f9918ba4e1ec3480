-- The theorem of the marked points.
pub mod MarkedPoints
