-- The laws of arming, disarming and rearming.
pub mod Timing
pub mod Doing
