-- The groups of rows whose left values have the same hashes, and their leaders.
pub mod Hash
pub mod Chains
pub mod Leaders
pub mod Groups
pub mod Walked
