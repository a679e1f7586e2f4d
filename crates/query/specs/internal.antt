-- What internal functions alone cite: an entry as a number, and the never query of any room.
pub mod Code
pub mod Never
