-- Lent nodes and the six columns that they are read into.
pub mod Columns
pub mod Laid
