-- What functions that are no public call promise.
pub mod Lookup
pub mod Reading
