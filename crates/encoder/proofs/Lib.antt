-- Laws that several functions cite.
pub mod Stores
pub mod PlaceParts
