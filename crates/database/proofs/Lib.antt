-- The laws that the proofs of this crate share.
pub mod Verdicts
pub mod Evaluations
pub mod Meaning
