-- The definitions that a reader must believe, in the order in which to read them; then what is proved of them.
pub mod Join
pub mod JoinChase
pub mod JoinTheorems
pub mod Examples
