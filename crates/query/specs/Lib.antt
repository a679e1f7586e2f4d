-- What the fields of a stored query and of a stored dependency mean (View), their rule, examples of both (Examples), and what these come to
-- (Meaning). `internal` has an entry as a number.
pub mod Types
pub mod View
pub mod Rule
pub mod Examples
pub mod Stored
pub mod Meaning
pub mod internal
