-- What the core of a stored query is stands in `internal/CoreOf`: the public calls that use it promise the theory's reductions and answers.
pub mod internal
