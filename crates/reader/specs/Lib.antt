-- Nothing public: what a file is stands in `format`. `internal` is what the functions answer.
pub mod internal
