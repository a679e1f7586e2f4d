-- What a search looks for (Solution), what its state keeps (Consistent), and what one step makes of a state (Steps).
pub mod Solution
pub mod Consistent
pub mod Steps
