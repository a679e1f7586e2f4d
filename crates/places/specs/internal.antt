-- What functions that are no public call cite.
pub mod Read
