-- What the search is given (Candidates), and what functions of this crate alone cite (Sharing).
pub mod Candidates
pub mod Sharing
