-- What finding and checking a mapping promise (Mapped), and what functions of this crate alone cite (Lines).
pub mod Mapped
pub mod Lines
