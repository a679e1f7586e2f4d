-- A mapping as words, written and read (Mappings).
pub mod Mappings
