-- Tests on numbers and lists, the numbers of a range, and one list written over another.
pub mod Tests
pub mod Numbers
pub mod Over
pub mod Examples
-- What contracts of other crates' functions cite: what a test's result tells.
pub mod internal
