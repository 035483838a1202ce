-- The slices of the records, lent as one value, and the records that they hold.
pub mod Slices
