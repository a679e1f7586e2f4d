-- Laws that several proofs share, here and in `search`: of masks, and of a state's steps.
pub mod Masks
pub mod Steps
