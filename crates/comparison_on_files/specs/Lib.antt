-- What comparing and checking a mapping come to on files (Queries). `internal` is this crate's own.
pub mod Queries
pub mod internal
