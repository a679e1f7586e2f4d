-- What writing answers.
pub mod Writing
