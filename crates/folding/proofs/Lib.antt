-- Laws of this crate's own proofs: candidates that are left (Left), the state of the loop over rows (Keeping), and mappings of the theory into rows that are
-- left (Theory).
pub mod Left
pub mod Marked
pub mod Keeping
pub mod Theory
