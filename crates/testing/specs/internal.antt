-- What walks over the rows have seen: keys, and how a walk ended.
pub mod Keyed
pub mod Tested
