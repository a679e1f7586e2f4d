-- Where pairs are looked for (Found), and the cells of a stored query as they are read (Reading).
pub mod Found
pub mod Reading
