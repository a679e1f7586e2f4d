-- What the private functions promise.
pub mod Steps
