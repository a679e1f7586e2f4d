-- What is chosen stands for the rows that are chosen, and the search over codes finds what the theory's finds (Choosing). Arrays of cells filled in turn (Cells).
-- The rows of a tableau as codes (Coded), the row that is found (Found, Next), and a tableau with a row more and without repeated rows (Rows).
pub mod Choosing
pub mod Cells
pub mod Coded
pub mod Found
pub mod Next
pub mod Rows
