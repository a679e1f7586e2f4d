-- The rows that words spell (Words), and what that comes to (Meaning); the first dependency that they break (Testing), and what that answer means (Broken).
pub mod Words
pub mod Meaning
pub mod Testing
pub mod Broken
-- What contracts of the functions cite.
pub mod internal
