-- What the search for a step asks and answers.
pub mod internal
