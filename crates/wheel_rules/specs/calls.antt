-- The public calls: what each answers and writes, and its promise.
pub mod Work
pub mod Calls
