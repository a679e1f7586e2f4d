-- What functions of this crate alone cite.
pub mod Steps
