-- A file that a call leaves is read as the record after it, and a query part as its query (Legible).
pub mod Legible
