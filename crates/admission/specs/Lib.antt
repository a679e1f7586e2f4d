-- What testing and evaluation ask before the rows are looked at (Conditions). `internal` is for the functions.
pub mod Conditions
pub mod internal
