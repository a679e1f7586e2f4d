-- How long its type says a reduction's arrays are (Shapes), and what reducing leaves (Reductions).
pub mod Shapes
pub mod Reductions
