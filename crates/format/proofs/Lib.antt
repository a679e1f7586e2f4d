-- Laws of bytes; of little-endian numbers; of the format combinators; of loops that fill an array; of the parts; of the directory; of results; of
-- the order of faults; the two round trips. And the statements of `specs/Meaning`.
pub mod Bytes
pub mod Numbers
pub mod Formats
pub mod Filling
pub mod Parts
pub mod Directory
pub mod Stretches
pub mod Results
pub mod Faults
pub mod Rules
pub mod Places
pub mod Lengths
pub mod RoundTrip
pub mod Meaning
