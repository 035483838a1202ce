-- The laws of the sketch.
pub mod Words
pub mod Rises
pub mod Masks
pub mod Passes
pub mod Places
pub mod Counting
pub mod Soundness
pub mod Promises
pub mod Coincidence
pub mod Kept
pub mod Each
pub mod Steps
