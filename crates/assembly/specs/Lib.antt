-- Nothing public: what the file of a record is stands in `format`. `internal` is what functions that are no public call cite.
pub mod internal
