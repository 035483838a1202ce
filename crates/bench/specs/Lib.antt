-- What the contracts of `bench` cite.
pub mod Ready
pub mod Kept
