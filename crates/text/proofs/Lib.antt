-- Laws that the proofs of the functions share: what a turn of a loop writes (Turns), which variables occur (Occurring), how long the text is (Bound).
pub mod Turns
pub mod Occurring
pub mod Bound
-- Examples of the text.
pub mod Example
