-- The laws of the wheel on records.
pub mod layout
pub mod turns
pub mod sound
pub mod refusals
pub mod history
pub mod pull
pub mod records
pub mod timers
