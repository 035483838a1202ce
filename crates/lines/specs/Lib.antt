-- What the contracts of `lines` cite.
pub mod Answers
pub mod Collecting
pub mod Digests
pub mod Reading
pub mod Parts
