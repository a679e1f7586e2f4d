-- The proofs of the statements of specs/, and the laws on the way to them. `Theorems` has a proof of each; each file's header says what is in it.
pub mod Repeats
pub mod Choices
pub mod Obeying
pub mod JoinChase
pub mod Order
pub mod Containment
pub mod Fitting
pub mod Examples
pub mod Theorems
