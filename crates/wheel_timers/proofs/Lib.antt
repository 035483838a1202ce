-- A law that the proofs of this crate share with none.
mod Counted
