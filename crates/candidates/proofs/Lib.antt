-- Laws that proofs share, here and in `mapping`: masks of bits (Masks), rows and candidates (Candidates), rows that are the same as earlier ones (Repeats),
-- what `all` over a chain tells (Chained), columns that share variables (Columns), and a table that is cut mask by mask (Cutting).
pub mod Masks
pub mod Candidates
pub mod Repeats
pub mod Chained
pub mod Columns
pub mod Cutting
