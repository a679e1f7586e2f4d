-- The format of the file, in the order in which to read it.
pub mod Bytes
pub mod Format
pub mod Parts
pub mod File
pub mod Faults
-- What the formats of the parts come to.
pub mod Meaning
