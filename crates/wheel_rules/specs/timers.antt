-- Arming, disarming and rearming on sound records.
pub mod Change
pub mod Timers
