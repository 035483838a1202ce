-- The worked numbers of 01 that are marked W and S.
pub mod Rows
pub mod Right
