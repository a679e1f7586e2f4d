-- What the first condition that holds tells, and what it is that numbers stand in an order.
pub mod Refusals
pub mod Order
pub mod Numbered
