-- What the calls on the record alone come to on files (Records). `internal` is this crate's own.
pub mod Records
pub mod internal
