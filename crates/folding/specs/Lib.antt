-- What is kept of a query's rows stands in `internal`: the public calls that use it promise the theory's reductions and answers.
pub mod internal
