-- What comparing leaves (Verdicts), and what checking says (Checks).
pub mod Verdicts
pub mod Checks
