-- The proofs of the statements of specs/: `Theorems` has a proof of each.
pub mod Determined
pub mod Theorems
