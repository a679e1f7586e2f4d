-- The laws on which the proofs of the survivor and the replacement stand.
pub mod Steps
pub mod Keys
