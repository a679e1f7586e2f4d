-- The three demands (SPECIFICATION, The demands), a file each, and demand 1 for each call (Demand1Calls). src/ has the calls of which they are proved.
pub mod Demand1
pub mod Demand1Calls
pub mod Demand2
pub mod Demand3
