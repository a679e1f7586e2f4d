-- What functions of this crate and their callers alone cite.
pub mod Results
