-- What the contracts of `shift_record` and `shift_record_grid` cite.
pub mod Record
