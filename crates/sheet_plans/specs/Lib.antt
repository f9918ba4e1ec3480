-- What the contracts of `sheet_plans` cite: the plan of a sheet's step.
pub mod Sheets
