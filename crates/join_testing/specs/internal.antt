-- The search for a choice of rows.
pub mod Search
