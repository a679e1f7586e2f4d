-- The laws that the proofs of this crate share.
pub mod Parting
pub mod Chaining
pub mod Gathering
