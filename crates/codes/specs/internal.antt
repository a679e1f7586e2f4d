-- The pairs that are ready, cells and rows as they are read (Codes), and where pairs are looked for (Found).
pub mod Codes
pub mod Found
