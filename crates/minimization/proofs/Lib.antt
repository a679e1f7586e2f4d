-- The proofs of the statements of specs/, and the laws on the way to them. `Theorems` has a proof of each; each file's header says what is in it.
pub mod Without
pub mod Reduction
pub mod Search
pub mod Checking
pub mod Kept
pub mod Order
pub mod Examples
pub mod Theorems
