-- The round trips of the two calls, and the longest file.
pub mod RoundTrip
pub mod Longest
pub mod Shapes
