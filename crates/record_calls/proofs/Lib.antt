-- What the calls' equations mean (Meaning), for other crates; the calls by the tests that decide them (Outcomes), for this one.
pub mod Meaning
pub mod Outcomes
