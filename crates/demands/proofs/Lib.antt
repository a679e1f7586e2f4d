-- The demands from the calls' own contracts, a file each.
pub mod Conditions
pub mod Answering
pub mod Shortening
