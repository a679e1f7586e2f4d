-- `internal` is this crate's own, and of the crates that take a schema.
pub mod internal
