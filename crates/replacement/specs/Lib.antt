-- The survivor by keys; then what the survivor and the replacement in code answer.
pub mod Keys
pub mod internal
