-- The laws of the deque by itself. Coincide, Histories and Cursor are what a reader looks for.
pub mod Sounding
pub mod Testing
pub mod Refusing
pub mod Keeping
pub mod Looking
pub mod Meeting
pub mod Relinking
pub mod Working
pub mod Calling
pub mod Rows
pub mod Coincide
pub mod Laws
pub mod Cursor
pub mod Kept
pub mod Histories
pub mod Example
