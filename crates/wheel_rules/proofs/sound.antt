-- The laws of the wheel's soundness test.
pub mod Answers
pub mod Filings
pub mod Counted
pub mod Showing
pub mod Shown
