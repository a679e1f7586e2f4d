-- Tables as they are filled, and the tables of a join dependency.
pub mod Filling
pub mod Indexed
