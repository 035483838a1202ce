-- The laws of a popped node, and of where an advance goes.
pub mod Positions
pub mod Turning
pub mod Waiting
pub mod Fewer
pub mod Popping
