-- Lent nodes as records, and the C functions: Face is what a reader reads; the others are inner.
pub mod Face
pub mod nodes
pub mod Turns
pub mod Works
pub mod Crowded
