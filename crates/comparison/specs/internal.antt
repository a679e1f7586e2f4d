-- What the private functions promise.
pub mod Pairs
pub mod Images
