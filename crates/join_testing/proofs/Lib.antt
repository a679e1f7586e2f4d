-- The laws that the proofs of this crate share.
pub mod Choosing
pub mod Sets
pub mod Searching
pub mod Arranging
pub mod Finding
-- What the answer of a test means.
pub mod Means
