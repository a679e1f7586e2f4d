-- Nothing public: what the query parts hold stands in `format`. `internal` is what functions that are no public call cite.
pub mod internal
