-- The laws that the proofs of this crate share.
pub mod Starting
pub mod Bits
pub mod Having
pub mod Reaching
pub mod Putting
