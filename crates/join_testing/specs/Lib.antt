-- The first join dependency that a database does not obey (Unmet), and what that answer means (Meaning).
pub mod Unmet
pub mod Meaning
-- What contracts of the functions cite.
pub mod internal
