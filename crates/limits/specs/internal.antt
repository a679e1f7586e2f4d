-- What functions of this crate, and of those that take a schema, alone cite.
pub mod Answers
pub mod Entries
pub mod Schema
