-- What internal functions alone cite.
pub mod internal
