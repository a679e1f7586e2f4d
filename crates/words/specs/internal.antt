-- What contracts cite and no promise of a public call does.
pub mod Rows
pub mod Found
pub mod Walk
