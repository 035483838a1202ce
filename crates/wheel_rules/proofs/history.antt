-- What the wheel's promises say together. Coincide, Steps, Runs and Demand3 are what a reader looks for.
pub mod Coincide
pub mod Steps
pub mod Runs
pub mod Splitting
pub mod Standing
pub mod Advances
pub mod Among
pub mod Arming
pub mod Demand3
pub mod Continuing
pub mod Reached
