-- The laws of the refusals.
pub mod Rows
pub mod Refusing
