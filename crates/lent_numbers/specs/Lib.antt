-- What a call leaves in what it is lent (Lent), and the numbers that a test leaves (Numbers). `internal` is for this crate and its callers.
pub mod Lent
pub mod Numbers
pub mod internal
