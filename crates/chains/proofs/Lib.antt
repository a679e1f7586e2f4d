-- What `all` and `any` of a chain of iterators come to.
pub mod Chains
pub mod Ranges
