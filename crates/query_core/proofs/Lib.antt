-- Laws of this crate's own proofs: the order of rows (RowOrder), a query with one row more (Inserted), and the core's answers (Answers).
pub mod RowOrder
pub mod Inserted
pub mod Answers
