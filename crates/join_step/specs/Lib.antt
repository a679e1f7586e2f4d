-- What the steps of a round ask and promise.
pub mod internal
