-- What the record's rule of join dependencies comes to in the theory, and its limit of rows.
pub mod Fitting
pub mod Limit
