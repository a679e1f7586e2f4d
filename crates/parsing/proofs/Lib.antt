-- Laws that several functions cite.
pub mod Words
pub mod Values
pub mod Positions
pub mod Counted
pub mod Times
pub mod Relations
pub mod Codes
pub mod RowLaws
pub mod ReadingRows
pub mod QueryLaws
pub mod Dependencies
pub mod Joins
