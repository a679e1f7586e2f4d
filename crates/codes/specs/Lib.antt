-- `internal` is what functions that read by pairs of codes cite.
pub mod internal
