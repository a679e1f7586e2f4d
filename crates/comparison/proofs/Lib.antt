-- The laws on which the proofs of comparing and of checking a mapping stand.
pub mod Pairs
pub mod Verdicts
pub mod Answers
pub mod Images
pub mod Checks
pub mod Meaning
