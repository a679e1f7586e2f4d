-- The laws that the proofs of this crate share.
pub mod Spelling
pub mod Reading
pub mod Columns
pub mod Search
pub mod Obeys
-- What the answer of a test means.
pub mod Broken
pub mod Walking
