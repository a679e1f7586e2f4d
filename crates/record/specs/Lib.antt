-- What the record's fields mean, its rule, what each call promises, and what that comes to. Below `internal`: what the functions behind the calls promise.
pub mod View
pub mod Rule
pub mod Calls
pub mod Meaning
pub mod internal
