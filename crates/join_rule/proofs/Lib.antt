-- The proofs of the statements of specs/.
pub mod Fitting
pub mod Limit
pub mod Shapes
