-- A popped node, and where an advance goes from a bucket.
pub mod Position
pub mod Pop
