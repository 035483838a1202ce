-- Laws that the proofs of this crate and of those above it cite.
pub mod Products
pub mod Powers
pub mod Replies
pub mod Cases
pub mod Members
pub mod Counting
pub mod Rows
pub mod Numbered
