-- What the contracts of `kept` cite; what its promises speak of; and P6.
pub mod Entries
pub mod Corrections
pub mod Still
pub mod MarkedPoints
