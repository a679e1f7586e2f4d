-- The statements, proved (Legible).
pub mod Legible
