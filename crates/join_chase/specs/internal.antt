-- What contracts cite and no promise of a public call does.
pub mod JoinChased
