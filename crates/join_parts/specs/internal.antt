-- The parts of a relation.
pub mod Parts
