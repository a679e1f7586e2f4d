-- What functions of this crate cite (Folding), and what the crate above it gets (Kept).
pub mod Folding
pub mod Kept
