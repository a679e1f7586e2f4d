-- What a passed test tells (Relations, Good), what stored queries and dependencies are for the theory (Stored), by position and where they are blank (Shape).
pub mod Relations
pub mod Good
pub mod Stored
pub mod Shape
-- What the views and the rule come to (Meaning), and examples of them.
pub mod Meaning
pub mod Examples
-- The code of an entry, and pairs of codes that may be held together.
pub mod Codes
pub mod Pairs
