-- The laws on which the proofs of the chase's functions stand. `Callers` is of use to whoever calls the chase.
pub mod View
pub mod Good
pub mod Narrow
pub mod Callers
pub mod Rounds
