-- The columns that a set determines, and what is proved of them.
pub mod Determined
pub mod DeterminedTheorems
