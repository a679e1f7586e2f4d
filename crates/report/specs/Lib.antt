-- What the listing of a file is, and what writing it promises.
pub mod Report
-- What contracts of the functions on the way cite.
pub mod internal
