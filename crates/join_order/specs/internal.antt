-- The sets of a join dependency in another order.
pub mod Arranged
