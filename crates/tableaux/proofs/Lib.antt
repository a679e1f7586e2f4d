-- Laws of the tableau of a query, of some elements put over blank ones, and of a loop over the columns of a set.
pub mod Tableaux
pub mod Room
pub mod Columns
