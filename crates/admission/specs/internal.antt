-- What the functions promise.
pub mod Places
