-- What each kind of step makes of one tuple of a list.
pub mod Turns
