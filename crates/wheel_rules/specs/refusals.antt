-- Which refusal applies.
pub mod Refuse
