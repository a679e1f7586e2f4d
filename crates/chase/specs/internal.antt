-- What the crates above this one get.
pub mod Outcome
