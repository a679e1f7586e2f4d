-- The laws on which the proofs of the search stand: what agreeing asks of wide rows (Columns), and the search by positions (Search).
pub mod Columns
pub mod Search
