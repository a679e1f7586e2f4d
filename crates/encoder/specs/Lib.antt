-- Nothing public: what a query part is stands in `format`. `internal` is this crate's own.
pub mod internal
