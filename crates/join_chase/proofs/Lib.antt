-- A round of the chase (Rounds).
pub mod Rounds
