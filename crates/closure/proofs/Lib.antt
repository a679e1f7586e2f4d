-- Sets of columns as masks, and the closure on them.
pub mod Masks
pub mod Closure
