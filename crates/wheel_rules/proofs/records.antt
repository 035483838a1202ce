-- The laws of the wheel's records: what they show, and what a change of them changes of that.
pub mod Showing
pub mod Tying
pub mod Retiming
pub mod Setting
pub mod Counting
pub mod Serving
