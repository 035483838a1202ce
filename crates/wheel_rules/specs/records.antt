-- The lent records, what wheel on lists they show, and the calls on clock, entries and counts.
pub mod Records
pub mod Shows
pub mod Clocks
pub mod Moments
pub mod Counts
pub mod Settings
