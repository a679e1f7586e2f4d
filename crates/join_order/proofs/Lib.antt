-- The laws that the proofs of this crate share.
pub mod Swapping
