-- Laws that several functions cite.
pub mod Directories
