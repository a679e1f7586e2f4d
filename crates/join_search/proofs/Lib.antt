-- What a turn of a loop shows (Turns), what is chosen, column by column (Rows), and the search: rows that need not be tried, beginnings that lead nowhere (Search).
pub mod Turns
pub mod Rows
pub mod Search
