-- One turn of a pull.
pub mod Turns
