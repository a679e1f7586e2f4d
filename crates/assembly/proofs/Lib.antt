-- Laws that several functions cite.
pub mod FirstPlaces
pub mod RecordParts
pub mod Joins
pub mod Codes
