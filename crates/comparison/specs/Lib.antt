-- What comparing two places and checking a mapping promise (Comparison), and what that comes to (Meaning). Below `internal`: what the functions behind them do.
pub mod Comparison
pub mod Meaning
pub mod internal
