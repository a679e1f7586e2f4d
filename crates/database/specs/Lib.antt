-- What the calls on a database answer (Calls), and what that comes to (Meaning).
pub mod Calls
pub mod Meaning
