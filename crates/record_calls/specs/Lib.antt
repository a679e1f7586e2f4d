-- What each call promises, and what that comes to.
pub mod Calls
pub mod Meaning
