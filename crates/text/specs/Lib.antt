-- The text of the listing.
pub mod Text
-- What contracts of the functions cite.
pub mod internal
