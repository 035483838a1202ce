-- "Sound means", clause by clause, and the exact test.
pub mod Filing
pub mod Sound
