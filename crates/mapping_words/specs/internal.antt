-- What functions of this crate cite.
pub mod Steps
