-- What reading a file tells and what results leave (Files), and that the record after a call is good (Kept).
pub mod Files
pub mod Kept
