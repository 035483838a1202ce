-- The rules of the wheel, as definitions: Places, Wheel and Calls are what a reader reads, in this order. The others
-- are inner: what the laws, runs and demand 3 on the rules speak of.
pub mod Places
pub mod Wheel
pub mod Calls
pub mod Geometry
pub mod Place
pub mod Lists
pub mod Sound
pub mod Runs
pub mod Demand3
pub mod Worked
pub mod Order
