-- What functions of this crate cite (Rows), and what the crates above it get (CoreOf).
pub mod Rows
pub mod CoreOf
