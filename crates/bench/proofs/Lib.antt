-- Laws that the proofs of several functions cite.
pub mod DequeStanding
pub mod WheelStaying
pub mod WheelKeeping
