-- Linked deques and the free chain (Links), and the deque by itself (Deque): what a reader reads. The others are inner.
pub mod Links
pub mod Deque
pub mod Chain
pub mod Lists
pub mod Change
pub mod Free
pub mod Read
pub mod Layout
pub mod Sound
pub mod Turn
pub mod alone
