-- The laws of the turns up to a pull's answer.
pub mod Pulling
pub mod Skipping
pub mod Doing
