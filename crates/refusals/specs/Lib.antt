-- The refusals: their numbers, their order, and which one a call gives.
pub mod Refusals
pub mod Order
pub mod Refusal
