-- What the search promises is in `consistency` (Solution). What it keeps on the way (Invariant) only its own functions cite.
pub mod internal
