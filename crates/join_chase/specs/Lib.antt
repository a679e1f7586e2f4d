-- What the chase of a tableau with both kinds asks and promises is in `internal/JoinChased`: the public calls that use it promise the theory's chase.
pub mod internal
