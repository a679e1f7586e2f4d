-- Laws of writing one part after another (Writing) and of numbers in decimal (Decimal).
pub mod Writing
pub mod Decimal
