-- The laws of one turn of a pull.
pub mod Looking
pub mod Going
pub mod Taking
pub mod Doing
