-- What contracts of the functions cite.
pub mod internal
