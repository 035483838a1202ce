-- The sketch: Sketch is what a reader reads; the others are inner.
pub mod Sketch
pub mod Counters
pub mod Index
pub mod Hashes
pub mod Aging
