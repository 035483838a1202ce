-- The deque by itself: elements, lengths and cursors beside the links, its soundness, its refusals, its calls.
pub mod State
pub mod Sound
pub mod Refuse
pub mod Ready
pub mod Step
pub mod Work
pub mod History
