-- What reducing a place promises. Below `internal`: what the functions behind it do.
pub mod Reduced
pub mod internal
