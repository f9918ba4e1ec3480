-- What the contracts of `closure_run` cite.
pub mod Closure
pub mod Grid
