-- The turns up to a pull's answer.
pub mod Skips
pub mod Pull
