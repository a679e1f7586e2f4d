-- What a test that holds tells (Tests), and how a loop makes it (Loops); maps (Maps); elements by position (Positions); the numbers of a range
-- that pass a test (Numbers); one list written over another (Over); digits of masks (Bits); the examples of specs/ (Examples).
pub mod Tests
pub mod Loops
pub mod Maps
pub mod Positions
pub mod Numbers
pub mod Over
pub mod Bits
pub mod Examples
