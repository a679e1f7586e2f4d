-- Mappings as words (Images). `internal` is what functions of this crate cite, on the way to the checking of words.
pub mod Images
pub mod internal
