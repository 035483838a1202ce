-- The laws of the C functions.
pub mod Wording
pub mod Determined
pub mod Runs
