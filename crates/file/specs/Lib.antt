-- Reading and writing undo each other (RoundTrip), and a record whose file is as long as any (Longest).
pub mod RoundTrip
pub mod Longest
