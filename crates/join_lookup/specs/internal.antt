-- Rows by the words at which they begin, and tables of them.
pub mod Starts
pub mod Tables
