-- The wheel on records. Lent, Promise and Demand3 are what a reader reads; the folders are inner: what the code is
-- proved to write, and what its functions ask of each other.
pub mod Lent
pub mod Promise
pub mod Demand3
pub mod place
pub mod records
pub mod timers
pub mod layout
pub mod popping
pub mod turns
pub mod pull
pub mod sound
pub mod refusals
pub mod calls
pub mod history
