-- The closure of a set of columns on masks is this crate's own.
pub mod internal
