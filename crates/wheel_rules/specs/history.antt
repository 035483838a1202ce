-- Histories of calls.
pub mod Tells
