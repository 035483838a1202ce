-- The laws of lent nodes and their columns.
pub mod Fills
pub mod Using
pub mod InPlace
