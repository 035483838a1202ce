-- Laws that the proofs of several functions cite.
pub mod Blocks
pub mod Decimals
pub mod Lent
pub mod Mixes
pub mod Scans
pub mod Waiting
