-- What reducing comes to on files (Shortening). `internal` is this crate's own.
pub mod Shortening
pub mod internal
