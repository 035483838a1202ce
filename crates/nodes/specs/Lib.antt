-- inner: what the contracts of nodes cite.
pub mod Held
