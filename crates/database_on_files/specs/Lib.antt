-- What testing and evaluation come to on files (Databases).
pub mod Databases
