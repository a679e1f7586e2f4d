-- The proofs of the statements of specs/, and the laws on the way to them. `Theorems` has a proof of each; each file's header says what is in it.
pub mod Lists
pub mod Entries
pub mod Members
pub mod Carry
pub mod Step
pub mod Order
pub mod Survivor
pub mod Replacement
pub mod Chase
pub mod Containment
pub mod Codes
pub mod Theorems
