-- Laws that the proofs of the functions share: the images of a reduction (Images), a record with one place (OnePlace), the lines of a query as it is read (ReadText),
-- the lines of a place (Listed), lines one after the other (Joined), and what reading a file answers (Reading).
pub mod Images
pub mod OnePlace
pub mod ReadText
pub mod Listed
pub mod Joined
pub mod Reading
