-- The laws that the proofs of this crate share.
pub mod Hashes
pub mod Chains
pub mod Leading
pub mod Following
pub mod Entering
pub mod Passing
