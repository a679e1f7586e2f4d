-- Numbers in decimal.
pub mod Decimal
pub mod Meaning
-- What contracts of the functions cite: bytes that fit into a buffer and are written there.
pub mod internal
