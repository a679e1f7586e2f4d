-- What functions of this crate cite, and the crates above it.
pub mod Wide
