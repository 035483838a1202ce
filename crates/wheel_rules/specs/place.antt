-- Where a deadline is placed.
pub mod Levels
pub mod Promises
