-- Laws that several proofs share: of rows that are missing, of the search's steps, and of the calls of the two functions that call each other.
pub mod Missing
pub mod Steps
pub mod Calls
