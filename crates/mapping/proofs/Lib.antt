-- What other crates cite: a query without rows has no mapping (Never), and the images of an array as a list of the theory (Checked).
pub mod Never
pub mod Checked
-- Laws of this crate's own proofs: images of variables (Images), mappings by positions (Wide), stored queries by positions (Lines), what find and check promise
-- (Results).
pub mod Images
pub mod Wide
pub mod Lines
pub mod Results
