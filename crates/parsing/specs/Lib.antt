-- Nothing public: what the parts of a file hold stands in `format`. `internal` is what functions that are no public call cite.
pub mod internal
