-- What contracts of the functions cite; what a test promises is in the specs of `words`.
pub mod internal
