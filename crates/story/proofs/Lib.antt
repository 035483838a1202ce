-- What the proofs of the story share.
pub mod Beginning
pub mod Telling
