-- What contracts cite; no promise of a public call rests on it.
pub mod internal
