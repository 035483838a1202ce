-- The laws of the wheel's public calls.
pub mod Acting
pub mod Deciding
pub mod Lifting
pub mod Ranges
pub mod Promising
pub mod Calling
pub mod Same
pub mod Keeping
pub mod Framing
pub mod Doing
