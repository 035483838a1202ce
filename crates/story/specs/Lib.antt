-- What the contracts of the story cite.
pub mod Held
pub mod Tests
pub mod Story
