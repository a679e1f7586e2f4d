-- Facts that other crates cite: what a passed test tells (Good), what the record's fields are for the theory (Stored), what a lookup of a place tells
-- (Refusals), that the calls keep the rule (Kept), what the calls' equations mean (Meaning), and what is known of a query as it is read (Reading).
pub mod Good
pub mod Stored
pub mod Refusals
pub mod Kept
pub mod Meaning
pub mod Reading
-- Laws of this crate's own proofs: the calls (Outcomes), and that the held dependencies fit the schema (Fitting).
pub mod Outcomes
pub mod Fitting
