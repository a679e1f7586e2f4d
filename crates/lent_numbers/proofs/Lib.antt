-- What a result leaves (Lent).
pub mod Lent
