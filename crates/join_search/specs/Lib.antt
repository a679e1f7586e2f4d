-- What the search for a missing row asks and answers.
pub mod internal
