-- What several modules say: Shared and Refusals are what a reader reads; the others are inner.
pub mod Shared
pub mod Refusals
pub mod Rows
pub mod Lists
