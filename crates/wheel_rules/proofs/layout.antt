-- The laws of the records as enabling lays them out.
pub mod Clearing
pub mod Seating
pub mod Bare
pub mod Ends
pub mod Doing
