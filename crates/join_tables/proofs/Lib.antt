-- The laws that the proofs of this crate share.
pub mod Entering
pub mod Filling
pub mod Ruled
pub mod Clearing
pub mod Threading
