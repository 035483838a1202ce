-- What the loops over lent nodes are made of: a field of the nodes, read into a column.
pub mod Reading
