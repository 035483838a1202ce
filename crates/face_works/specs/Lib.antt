-- inner: what the contracts of the works cite.
pub mod Slots
